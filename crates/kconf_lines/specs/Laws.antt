-- Public laws, which the functions of src/laws.rt promise. This project's words.
use Rattle.std.specs.Prelude.{◌≡◌, ◌<◌, Bool, false, length, IfSome, Option, List, if◌then◌else◌}
use Rattle.std.specs.Option.{option_map}
use Rattle.ut_text.specs.Bytes.{Bytes}
use Rattle.kconf_lines.specs.Cut.{go_on, cut}
use Rattle.kconf_lines.specs.Lines.{Line}
use Rattle.kconf_lines.specs.HelpTexts.{after_help}
use Rattle.kconf_lines.specs.LogicalLines.{first_line}

-- each piece takes something
abbrev pub Shortens : {X A : Type 0} → (List X → Option (A × List X)) → Type 0
Shortens {X} first = (xs : List X) → IfSome (first xs) (λ p. length p.1 < length xs)

-- the first piece is cut off, and then those of what it leaves
abbrev pub CutsOneByOne : {X A : Type 0} → (List X → Option (A × List X)) → Type 0
CutsOneByOne {X} first = (xs : List X) → cut first xs ≡ go_on (cut first) xs (first xs)

-- what is left after a line, and after its help text where it begins one
abbrev pub after_line : (Bytes → Bool) → Line × List Line → Line × List Line
after_line begins_help p = (p.0, if begins_help p.0.text then after_help p.1 else p.1)

-- the first line is that of a text in which no line begins a help text
abbrev pub PassesHelp : (Bytes → Bool) → List Line → Type 0
PassesHelp begins_help ls = first_line begins_help ls ≡ option_map (after_line begins_help) (first_line (λ text. false) ls)
