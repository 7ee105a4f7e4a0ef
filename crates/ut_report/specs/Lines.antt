-- The lines of a dead run's report on blocks and on refused sources, and its total line, without their newlines.
-- Rule: this project's own; the words are those of the tools of the EuroSys 2011 paper on Undertaker.
use Rattle.std.specs.Prelude.{ℕ, List, [], ◌∷◌, ◌++◌, suc, map, codes, decimal}
use Rattle.std.specs.List.{concat}
use Rattle.ut_text.specs.Bytes.{Bytes, newline}
use Rattle.cpp_directives.specs.declared.bad.CppBad.{CppBad}
use Rattle.cpp_directives.specs.declared.bad.CppBad.TheVariants as bad
use Rattle.ut_case.specs.declared.question.Ask.{Ask}
use Rattle.ut_case.specs.declared.question.Ask.TheVariants.{Selected, Dropped}
use Rattle.ut_case.specs.declared.question.Class.{Class}
use Rattle.ut_case.specs.declared.question.Class.TheVariants as class
use Rattle.ut_case.specs.declared.word.Word.{Word}
use Rattle.ut_case.specs.declared.word.Word.TheVariants.{Dead, Undead, Live, Undecided}

-- ---- lines, without their newlines; `steps` is the budget of the run

-- the word of a class
abbrev pub class_text : Class → Bytes
class_text class.Code = codes "code"
class_text class.Kconfig = codes "kconfig"
class_text class.Missing = codes "missing"
class_text (class.Unclassified steps) = codes "unclassified"

-- after an unclassified line stand a space and the steps
abbrev pub steps_text : Class → Bytes
steps_text class.Code = []
steps_text class.Kconfig = []
steps_text class.Missing = []
steps_text (class.Unclassified steps) = codes " " ++ decimal steps

-- the word of what was asked
abbrev pub ask_text : Ask → Bytes
ask_text Selected = codes "selected"
ask_text Dropped = codes "dropped"

-- what a line says of a block
abbrev pub word_text : ℕ → Word → Bytes
word_text steps (Dead class) = class_text class ++ codes ".globally.dead" ++ steps_text class
word_text steps (Undead class) = class_text class ++ codes ".globally.undead" ++ steps_text class
word_text steps Live = codes "live"
word_text steps (Undecided ask) = codes "undecided " ++ ask_text ask ++ codes " " ++ decimal steps

-- the line of one block
abbrev pub block_line : Bytes → ℕ → ℕ → Word → Bytes
block_line name steps block word = name ++ codes ".B" ++ decimal block ++ codes "." ++ word_text steps word

-- the kind and the line of a refusal
abbrev pub refusal_of : CppBad → Bytes × ℕ
refusal_of (bad.Unbalanced line) = (codes "unbalanced", line)
refusal_of (bad.ElseTwice line) = (codes "else", line)
refusal_of (bad.Depth line) = (codes "depth", line)
refusal_of (bad.TooMany line) = (codes "many", line)
refusal_of (bad.NoName line) = (codes "name", line)
refusal_of (bad.Condition line) = (codes "condition", line)
refusal_of (bad.Unclosed line) = (codes "unclosed", line)
refusal_of bad.Oom = (codes "memory", 0)

-- the line of a source that is refused
abbrev pub refused_line : Bytes → CppBad → Bytes
refused_line name bad = name ++ codes ".refused " ++ (refusal_of bad).0 ++ codes " " ++ decimal (refusal_of bad).1

-- ---- the total line

-- how many blocks have which word
pub record Totals : Type 0 where
  pub blocks : ℕ
  pub dead : ℕ
  pub undead : ℕ
  pub live : ℕ
  pub undecided : ℕ

-- one more word
abbrev pub counted : Totals → Word → Totals
counted t (Dead class) = record t { blocks = suc t.blocks; dead = suc t.dead }
counted t (Undead class) = record t { blocks = suc t.blocks; undead = suc t.undead }
counted t Live = record t { blocks = suc t.blocks; live = suc t.live }
counted t (Undecided ask) = record t { blocks = suc t.blocks; undecided = suc t.undecided }

-- the words in order
abbrev pub totals_from : Totals → List Word → Totals
totals_from t [] = t
totals_from t (w ∷ ws) = totals_from (counted t w) ws

-- of all words of a run
abbrev pub totals_of : List Word → Totals
totals_of = totals_from (record { blocks = 0; dead = 0; undead = 0; live = 0; undecided = 0 })

-- the last line
abbrev pub total_line : Totals → Bytes
total_line t = codes "blocks " ++ decimal t.blocks ++ codes " dead " ++ decimal t.dead ++ codes " undead " ++ decimal t.undead
    ++ codes " live " ++ decimal t.live ++ codes " undecided " ++ decimal t.undecided

-- ---- lines as a text

-- each line with its newline
abbrev pub text_of : List Bytes → Bytes
text_of lines = concat (map (λ line. line ++ newline ∷ []) lines)
