-- Files, words and answers of worked rows, written as texts.
use Rattle.std.specs.Prelude.{nat_eq, ◌++◌, List, [], ◌∷◌, Option, None, Some, Result, if◌then◌else◌}
use Rattle.std.specs.List.{slice_split}
use Rattle.std.specs.Result.{result_map_both}
use Rattle.ut_text.specs.Bytes.{Bytes, newline}
use Rattle.ut_text.specs.Text.{text_eq}
use Rattle.undertaker_run.specs.Jobs.Golem.{golem_of}
use Rattle.undertaker_run.specs.Refusals.{line_of}

-- a text cut at its spaces
abbrev pub cut : Bytes → List Bytes
cut text = slice_split (nat_eq 32) text

-- a text of these lines
abbrev pub lines : List Bytes → Bytes
lines [] = []
lines (line ∷ rest) = line ++ newline ∷ lines rest

-- no file
abbrev pub nothing : Bytes → Option Bytes
nothing name = None

-- one file more, with these lines
abbrev pub file : Bytes → List Bytes → (Bytes → Option Bytes) → Bytes → Option Bytes
file name text others other = if text_eq other name then Some (lines text) else others other

-- what golem prints from `Makefile` on, or the line of its refusal
abbrev pub golem : (Bytes → Option Bytes) → Bytes → Result Bytes Bytes
golem files root = result_map_both (λ text. text) line_of (golem_of files root)
