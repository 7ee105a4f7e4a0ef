use Rattle.std.proofs.Common.{◌∙◌}
use Rattle.clap.proofs.WalkLemmas.{first_value-rows}
use Rattle.clap.specs.Words.{found_of, rows_of}
use Rattle.ut_words.proofs.Holding.{value_held}
use Rattle.ut_words.proofs.reading.value.Goals as goal

pub returns : goal.returns
returns c = λ said reads.
    c.get_str.ensures ∙ first_value-rows (found_of c.args.matches.now) c.args.name.now
    ∙ value_held said (rows_of (found_of c.args.matches.now)) c.args.name.now reads c.requires
