-- What the readers of a directive's line and its places promise each other.
-- This project's own; no contract of a public call rests on it.
use Rattle.std.specs.Prelude.{◌≡◌, ◌++◌, ℕ, Option, option_to_list, Result, Ok, Err, List}
use Rattle.cpp_directives.specs.declared.bad.CppBad.{CppBad}
use Rattle.cpp_directives.specs.declared.directive.What.{What}
use Rattle.cpp_directives.specs.declared.directive.Directive.{Directive}
use Rattle.cpp_directives.specs.Chains.{Earlier}
use Rattle.cpp_directives.specs.Stack.{ChainState, IsStackOf}
use Rattle.cpp_directives.specs.Refusals.{Fails}
use Rattle.ut_text.specs.Results.{◌>>=◌}
use Rattle.cpp_read.specs.declared.uncommented.LineText.{LineText}
use Rattle.cpp_read.specs.declared.source.Source.{Source}
use Rattle.cpp_read.specs.LogicalLines.{Marked}
use Rattle.cpp_read.specs.Directives.{Read, directives_in, spans_in}

-- the line with this text
abbrev pub marked_at : ℕ → ℕ → ℕ → LineText → Marked
marked_at start end line text = record { start = start; end = end; number = line; text = text.bytes.items; ends = text.ends.items }

-- what a line says, if it says something
abbrev pub Says : Result (Option What) CppBad → Result (List What) CppBad → Type 0
Says (Ok w) read = read ≡ Ok (option_to_list w)
Says (Err e) read = Fails e read

-- what a line says, if it says something, and the chains after it
abbrev pub ReadsLine : Result (Option What) CppBad → ChainState → Result (List Earlier × List What) CppBad → Type 0
ReadsLine (Ok w) new read = (more : List Earlier) × (read ≡ Ok (more, option_to_list w)) × IsStackOf new more
ReadsLine (Err e) new read = Fails e read

-- what is kept is what was read
pub record Keeps (source : Source) (rs : List Read) : Type 0 where
  pub directives : source.directives.items ≡ directives_in rs
  pub spans : source.spans.items ≡ spans_in rs

-- what is left, after what was read
abbrev pub reads_after : List Read → Result (List Read) CppBad → Result (List Read) CppBad
reads_after front read = read >>= λ rs. Ok (front ++ rs)

-- all of a text is kept
abbrev pub ReadsAll : Result Source CppBad → Result (List Read) CppBad → Type 0
ReadsAll (Ok source) read = (rs : List Read) × (read ≡ Ok rs) × Keeps source rs
ReadsAll (Err e) read = Fails e read
