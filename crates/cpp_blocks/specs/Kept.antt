-- What the fields of `Blocks` hold.
use Rattle.std.specs.Prelude.{◌≡◌, ℕ, ◌≤◌, List, [], ◌∷◌}
use Rattle.ut_text.specs.Bytes.{Bytes}
use Rattle.cpp_directives.specs.declared.directive.Directive.{Directive}
use Rattle.cpp_blocks.specs.declared.pieces.PieceOf.{PieceOf}
use Rattle.cpp_blocks.specs.Blocks.{innermost, open_after, next_after, parents_of, count_of}
use Rattle.cpp_blocks.specs.Mentions.{names_of}
use Rattle.cpp_blocks.specs.Nesting.{openers_from}
use Rattle.cpp_blocks.specs.Turns.{pieces_of}
use Rattle.cpp_directives.specs.WellFormed.{IsWellFormed}

-- the innermost open block after each directive
abbrev pub inner_from : ℕ → List ℕ → List Directive → List ℕ
inner_from next inside [] = []
inner_from next inside (d ∷ ds) = innermost (open_after next inside d.what) ∷ inner_from (next_after next d.what) (open_after next inside d.what) ds

-- the fields are those of the directives
pub record IsKept (ds : List Directive) (parents openers inner : List ℕ) (names : List Bytes) (pieces : List PieceOf) : Type 0 where
  pub formed : IsWellFormed ds
  pub few : count_of ds ≤ 65535
  pub parents_are : parents ≡ parents_of ds
  pub openers_are : openers ≡ openers_from 0 ds
  pub inner_are : inner ≡ inner_from 1 [] ds
  pub names_are : names ≡ names_of ds
  pub pieces_are : pieces ≡ pieces_of ds
