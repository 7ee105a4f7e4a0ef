-- Names, pieces and free lines of a source are each once.
use Rattle.std.proofs.Common.{◌≡◌, ℕ, ◌<◌, ◌≤◌, true, false, ◌==◌, ◌||◌, List, [], ◌∷◌, ◌++◌, refl, arith}
use Rattle.std.specs.Prelude.{nat_lt}
use Rattle.std.specs.List.{list_any}
use Rattle.std.proofs.lemmas.Bool.Decides.{nat_tests}
use Rattle.cpp_directives.specs.declared.directive.Directive.{Directive}
use Rattle.cpp_directives.specs.declared.directive.Gives.{Gives}
use Rattle.cpp_directives.specs.declared.directive.Gives.TheVariants.{Zero, Nonzero, Free}
use Rattle.cpp_directives.specs.declared.directive.What.{What}
use Rattle.cpp_directives.specs.declared.directive.What.TheVariants.{If, Elif, Else, Endif, Define, Undef}
use Rattle.cpp_directives.specs.WellFormed.{lines_rise, IsWellFormed}
use Rattle.cpp_blocks.specs.Alike.{given_line, free_line, free_lines}
use Rattle.cpp_blocks.specs.Mentions.{AreEachOnce}
use Rattle.cpp_blocks.specs.Once.{NumbersOnce}
use Rattle.cpp_blocks.specs.PieceIdentity.{piece_eq, piece_equiv}
use Rattle.cpp_blocks.specs.Turns.{pieces_from}
use Rattle.cpp_blocks.proofs.NestedLaws.{and_left, and_right}
use Rattle.cpp_blocks.proofs.Numbers.{firsts_once, names_once}

below : (m n : ℕ) → nat_lt m n ≡ true → m < n
below m n t = grind (arith, nat_tests)

apart : (m n : ℕ) → m < n → (m == n) ≡ false
apart m n l = grind (arith, nat_tests)

-- a line up to this one is none of the free lines after it
none_up_to : (ds : List Directive) (n x : ℕ) → x ≤ n → lines_rise n ds ≡ true → list_any (λ (b : ℕ). x == b) (free_lines ds) ≡ false
none_up_to [] n x l r = refl
none_up_to (d ∷ ds) n x l r = by d.what (none_up_to ds d.line x (omega (arith, l, below n d.line (and_left (nat_lt n d.line) (lines_rise d.line ds) r))) (and_right (nat_lt n d.line) (lines_rise d.line ds) r))
  where
    above : n < d.line
    above = below n d.line (and_left (nat_lt n d.line) (lines_rise d.line ds) r)

    given : (gives : Gives) → list_any (λ (b : ℕ). x == b) (free_lines ds) ≡ false → list_any (λ (b : ℕ). x == b) (given_line d.line gives ++ free_lines ds) ≡ false
    given Zero rest = rest
    given Nonzero rest = rest
    given Free rest = λ i. apart x d.line (omega (arith, above, l)) i || rest i

    by : (w : What) → list_any (λ (b : ℕ). x == b) (free_lines ds) ≡ false → list_any (λ (b : ℕ). x == b) (free_line d.line w ++ free_lines ds) ≡ false
    by (If c) rest = rest
    by (Elif c) rest = rest
    by Else rest = rest
    by Endif rest = rest
    by (Define y gives) rest = given gives rest
    by (Undef y) rest = rest

lines_once : (ds : List Directive) (n : ℕ) → lines_rise n ds ≡ true → AreEachOnce (λ (a b : ℕ). a == b) (free_lines ds)
lines_once [] n r = tt
lines_once (d ∷ ds) n r = by d.what (lines_once ds d.line (and_right (nat_lt n d.line) (lines_rise d.line ds) r))
  where
    none : list_any (λ (b : ℕ). d.line == b) (free_lines ds) ≡ false
    none = none_up_to ds d.line d.line (omega arith) (and_right (nat_lt n d.line) (lines_rise d.line ds) r)

    given : (gives : Gives) → AreEachOnce (λ (a b : ℕ). a == b) (free_lines ds) → AreEachOnce (λ (a b : ℕ). a == b) (given_line d.line gives ++ free_lines ds)
    given Zero rest = rest
    given Nonzero rest = rest
    given Free rest = (none, rest)

    by : (w : What) → AreEachOnce (λ (a b : ℕ). a == b) (free_lines ds) → AreEachOnce (λ (a b : ℕ). a == b) (free_line d.line w ++ free_lines ds)
    by (If c) rest = rest
    by (Elif c) rest = rest
    by Else rest = rest
    by Endif rest = rest
    by (Define y gives) rest = given gives rest
    by (Undef y) rest = rest

-- a source numbers each name, each piece and each free line once
pub numbers_once : (ds : List Directive) → IsWellFormed ds → NumbersOnce ds
numbers_once ds formed = record {
  names = names_once ds;
  pieces = firsts_once piece_eq piece_equiv.symm [] (pieces_from [] ds) tt;
  lines = lines_once ds 0 formed.lines;
}
