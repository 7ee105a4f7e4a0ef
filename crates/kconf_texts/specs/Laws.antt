-- What follows from the definition of reading, in words of its own: what a refusal depends on. This project's words.
use Rattle.std.specs.Prelude.{◌≡◌, ◌++◌, List, [], ◌∷◌}
use Rattle.ut_text.specs.Bytes.{Bytes}
use Rattle.ut_base.specs.Plans.{Plan, Gives, ◌then◌}
use Rattle.kconf_entries.specs.declared.entries.Var.{Var}
use Rattle.kconf_lines.specs.Lines.{Line}
use Rattle.kconf_cut.specs.Words.{words_of}
use Rattle.kconf_statements.specs.EntryLines.{Before}
use Rattle.kconf_texts.specs.Texts.{Sourcing, Reading, words_read, lines_read}

-- the first lines of a file alone, which may end in open entries
abbrev pub first_lines : List Var → Bytes → Sourcing → Bytes → List Line → Before → Reading
first_lines vars root sourcing file [] before = Gives before
first_lines vars root sourcing file (l ∷ ls) before =
    words_read vars root sourcing file l.number before (words_of vars l.text) then first_lines vars root sourcing file ls

-- lines are read one after another: what the first ones refuse does not depend on those after them
abbrev pub IsReadInOrder : List Var → Bytes → Sourcing → Bytes → List Line → List Line → Before → Type 0
IsReadInOrder vars root sourcing file front rest before =
    lines_read vars root sourcing file (front ++ rest) before ≡ first_lines vars root sourcing file front before then lines_read vars root sourcing file rest

-- where the first lines are not refused, they begin an accepted text
abbrev pub IsAccepted : {A E : Type 0} → Plan A E → Type 0
IsAccepted {A} plan = (x : A) × (plan ≡ Gives x)

-- lines that are not refused can go on to an accepted text
abbrev pub BeginsAccepted : List Var → Bytes → Sourcing → Bytes → List Line → Before → Type 0
BeginsAccepted vars root sourcing file front before =
    IsAccepted (first_lines vars root sourcing file front before) → (rest : List Line) × IsAccepted (lines_read vars root sourcing file (front ++ rest) before)
