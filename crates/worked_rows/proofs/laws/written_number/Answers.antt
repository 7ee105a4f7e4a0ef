use Rattle.worked_rows.proofs.Numbers.{start_in_whole, defined_word, truth_word}
use Rattle.worked_rows.proofs.laws.written_number.Goals as goal

pub returns-clause-start : goal.returns-clause-start
returns-clause-start c = start_in_whole

pub returns-clause-defined : goal.returns-clause-defined
returns-clause-defined c = defined_word

pub returns-clause-truth : goal.returns-clause-truth
returns-clause-truth c = truth_word
