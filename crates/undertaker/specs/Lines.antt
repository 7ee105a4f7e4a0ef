-- Lines of output, each with its newline. This project's rule.
use Rattle.std.specs.Prelude.{List, [], ◌∷◌, ◌++◌, map}
use Rattle.ut_text.specs.Bytes.{Bytes}
use Rattle.ut_case.specs.declared.word.Word.{Word}
use Rattle.undertaker.specs.Report.{Words, report_lines}

-- a line with its newline
abbrev pub ended : Bytes → Bytes
ended line = line ++ 10 ∷ []

-- the lines of the report on one source whose blocks have these words, of which none is undecided
abbrev pub lines_on : Bytes → List Word → List Bytes
lines_on name words = map ended (report_lines 0 ((name, Words words) ∷ []))
