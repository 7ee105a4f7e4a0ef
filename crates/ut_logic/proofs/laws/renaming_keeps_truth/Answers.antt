use Rattle.ut_logic.proofs.RenamingLaws.{truth-renamed, mentioned-renamed}
use Rattle.ut_logic.proofs.laws.renaming_keeps_truth.Goals as goal

pub returns-clause-truth : goal.returns-clause-truth
returns-clause-truth c = truth-renamed

pub returns-clause-mentioned : goal.returns-clause-mentioned
returns-clause-mentioned c = mentioned-renamed
