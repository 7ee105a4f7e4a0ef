use Rattle.std.proofs.Common.{◌∙◌, codes}
use Rattle.clap.proofs.WalkLemmas.{first_value-rows}
use Rattle.clap.specs.Words.{found_of, rows_of}
use Rattle.ut_words.proofs.Holding.{evidence_held, evidence_there}
use Rattle.ut_words.proofs.reading.evidence.Goals as goal

pub returns-in-Some : goal.returns-in-Some
returns-in-Some c = λ said reads.
    c.eq.ensures ∙ evidence_held said (rows_of (found_of c.args.matches.now)) c.in-Some.text.now reads (c.in-Some.ensures ∙ first_value-rows (found_of c.args.matches.now) (codes "--evidence"))

pub returns-in-None : goal.returns-in-None
returns-in-None c = λ said reads.
    absurd (evidence_there said (rows_of (found_of c.args.matches.now)) reads (c.in-None.ensures ∙ first_value-rows (found_of c.args.matches.now) (codes "--evidence")))
