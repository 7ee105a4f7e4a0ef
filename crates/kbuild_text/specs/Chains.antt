-- The conditional parts round a line. Rule: GNU make, "Syntax of Conditionals". That the words of the conditional lines
-- are a condition that isn't looked into, and its text, is this project's rule.
use Rattle.std.specs.Prelude.{◌≡◌, ℕ, ◌-◌, ◌++◌, Bool, true, false, codes, length, take, drop, map, List, [], ◌∷◌, Option, None, Some}
use Rattle.ut_text.specs.Bytes.{Bytes}
use Rattle.ut_text.specs.Escapes.{escaped}
use Rattle.kbuild_paths.specs.declared.step.Step.{Step}
use Rattle.kbuild_paths.specs.declared.step.Step.TheVariants.{Free}
use Rattle.kbuild_text.specs.Marks.{bytes_of}
use Rattle.kbuild_text.specs.Words.{spaced}
use Rattle.kbuild_text.specs.declared.marks.Mark.{Mark}
use Rattle.kbuild_text.specs.declared.chains.Chain.{Chain}

-- a text without its first byte
abbrev pub without_first : Bytes → Bytes
without_first [] = []
without_first (b ∷ text) = text

-- words, each after a space
abbrev pub spaced_words : List (List Mark) → Bytes
spaced_words words = spaced (map bytes_of words)

-- a part opened at this line: its text is the line's words with one space between them
abbrev pub opened : ℕ → List (List Mark) → List Chain → List Chain
opened number words parts = parts ++ record { line = number; words = spaced_words words; text = escaped (without_first (spaced_words words)) } ∷ []

-- after an `else`: `else`, the words of the part's first line, and those after the `else`
abbrev pub turned_text : Chain → List (List Mark) → Bytes
turned_text chain words = escaped (codes "else" ++ chain.words ++ spaced_words words)

-- the parts after an `else` turns the innermost
abbrev pub turned : List (List Mark) → List Chain → List Chain
turned words [] = []
turned words (c ∷ []) = record c { text = turned_text c words } ∷ []
turned words (c ∷ d ∷ cs) = c ∷ turned words (d ∷ cs)

-- the parts without the innermost
abbrev pub closed : List Chain → List Chain
closed [] = []
closed (c ∷ []) = []
closed (c ∷ d ∷ cs) = c ∷ closed (d ∷ cs)

-- the first line of the outermost part
abbrev pub outermost : List Chain → Option ℕ
outermost [] = None
outermost (c ∷ cs) = Some c.line

-- the steps of the parts, from the outermost
abbrev pub steps_of : List Chain → List Step
steps_of parts = map (λ chain. Free chain.text) parts

-- ---- what the code promises

-- an `else` turns the innermost part, where there is one
abbrev pub Turns : List Chain → List (List Mark) → Bool → List Chain → Type 0
Turns old words true new = (c : Chain) × (cs : List Chain) × (old ≡ cs ++ c ∷ []) × (new ≡ cs ++ record c { text = turned_text c words } ∷ [])
Turns old words false new = (old ≡ []) × (new ≡ old)

-- an `endif` ends the innermost part, where there is one
abbrev pub Closes : List Chain → Bool → List Chain → Type 0
Closes old true new = (c : Chain) × (old ≡ new ++ c ∷ [])
Closes old false new = (old ≡ []) × (new ≡ old)
