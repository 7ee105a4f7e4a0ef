use Rattle.std.proofs.Common.{◌∙◌, codes, refl}
use Rattle.clap.proofs.WalkLemmas.{raw_values-rows}
use Rattle.clap.specs.Words.{found_of, rows_of}
use Rattle.ut_words.proofs.Holding.{files_there}
use Rattle.ut_words.proofs.reading.files.Goals as goal

pub returns : goal.returns
returns c = λ said reads.
    files_there said (rows_of (found_of c.args.matches.now)) c.get_strs.result c.unwrap_or.result _ reads c.unwrap_or.ensures refl
    (c.get_strs.ensures ∙ raw_values-rows (found_of c.args.matches.now) (codes "FILE"))
