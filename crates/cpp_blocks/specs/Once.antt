-- Names, pieces and free lines of a source are each once. This project's rule.
use Rattle.std.specs.Prelude.{ℕ, ◌==◌, List}
use Rattle.ut_text.specs.Text.{text_eq}
use Rattle.cpp_directives.specs.declared.directive.Directive.{Directive}
use Rattle.cpp_directives.specs.WellFormed.{IsWellFormed}
use Rattle.cpp_blocks.specs.Alike.{free_lines}
use Rattle.cpp_blocks.specs.Mentions.{names_of, AreEachOnce}
use Rattle.cpp_blocks.specs.PieceIdentity.{piece_eq}
use Rattle.cpp_blocks.specs.Turns.{pieces_of}

-- a source numbers each name, each piece and each free line once
pub record NumbersOnce (ds : List Directive) : Type 0 where
  pub names : AreEachOnce text_eq (names_of ds)
  pub pieces : AreEachOnce piece_eq (pieces_of ds)
  pub lines : AreEachOnce (λ (a b : ℕ). a == b) (free_lines ds)

-- and so each source that is read
abbrev pub AreNumberedOnce : Type 0
AreNumberedOnce = (ds : List Directive) → IsWellFormed ds → NumbersOnce ds
