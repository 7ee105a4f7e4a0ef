-- What the functions on nesting promise each other: the blocks of the directives passed so far.
use Rattle.std.specs.Prelude.{ℕ, suc, List, [], ◌∷◌, ◌++◌}
use Rattle.cpp_directives.specs.declared.directive.Directive.{Directive}
use Rattle.cpp_directives.specs.declared.directive.What.{What}
use Rattle.cpp_directives.specs.declared.directive.What.TheVariants.{If, Elif, Else, Endif, Define, Undef}
use Rattle.cpp_blocks.specs.Blocks.{innermost, outside}

-- the next block, the open blocks from the innermost, the parents and opening places of the blocks so far,
-- and the innermost open block after each directive
pub record Nested : Type 0 where
  pub next : ℕ
  pub inside : List ℕ
  pub parents : List ℕ
  pub openers : List ℕ
  pub inner : List ℕ

abbrev pub nothing : Nested
nothing = record { next = 1; inside = []; parents = []; openers = []; inner = [] }

-- the innermost open block ends
abbrev pub ended : Nested → Nested
ended n = record n { inside = outside n.inside }

-- a block begins inside the innermost open one
abbrev pub begun : ℕ → Nested → Nested
begun place n = record n {
  next = suc n.next;
  inside = n.next ∷ n.inside;
  parents = n.parents ++ innermost n.inside ∷ [];
  openers = n.openers ++ place ∷ [];
}

abbrev pub stepped : ℕ → What → Nested → Nested
stepped place (If cond) n = begun place n
stepped place (Elif cond) n = begun place (ended n)
stepped place Else n = begun place (ended n)
stepped place Endif n = ended n
stepped place (Define name gives) n = n
stepped place (Undef name) n = n

abbrev pub noted : Nested → Nested
noted n = record n { inner = n.inner ++ innermost n.inside ∷ [] }

abbrev pub passed : ℕ → What → Nested → Nested
passed place what n = noted (stepped place what n)

abbrev pub all_passed : ℕ → List Directive → Nested → Nested
all_passed place [] n = n
all_passed place (d ∷ ds) n = all_passed (suc place) ds (passed place d.what n)
