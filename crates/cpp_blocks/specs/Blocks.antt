-- The blocks of a list of directives: block 0 is the file, and each `#if`, `#elif` and `#else` begins
-- the next one, whose parent is the block round its chain.
-- Rule: ISO C, "Conditional inclusion"; the numbers are this project's rule.
use Rattle.std.specs.Prelude.{ℕ, List, [], ◌∷◌, ◌++◌, ◌-◌, suc, length, get_or}
use Rattle.cpp_directives.specs.declared.directive.Directive.{Directive}
use Rattle.cpp_directives.specs.declared.directive.What.{What}
use Rattle.cpp_directives.specs.declared.directive.What.TheVariants.{If, Elif, Else, Endif, Define, Undef}

-- the innermost open block, where `inside` lists the open ones but the file, innermost first
abbrev pub innermost : List ℕ → ℕ
innermost [] = 0
innermost (block ∷ inside) = block

-- the open blocks round the innermost one
abbrev pub outside : List ℕ → List ℕ
outside [] = []
outside (block ∷ inside) = inside

-- the open blocks after a directive, where `next` is the number of the next block
abbrev pub open_after : ℕ → List ℕ → What → List ℕ
open_after next inside (If cond) = next ∷ inside
open_after next inside (Elif cond) = next ∷ outside inside
open_after next inside Else = next ∷ outside inside
open_after next inside Endif = outside inside
open_after next inside (Define name gives) = inside
open_after next inside (Undef name) = inside

-- the parent of the block that a directive begins, if it begins one
abbrev pub parent_at : List ℕ → What → List ℕ
parent_at inside (If cond) = innermost inside ∷ []
parent_at inside (Elif cond) = innermost (outside inside) ∷ []
parent_at inside Else = innermost (outside inside) ∷ []
parent_at inside Endif = []
parent_at inside (Define name gives) = []
parent_at inside (Undef name) = []

-- the number of the next block after a directive
abbrev pub next_after : ℕ → What → ℕ
next_after next (If cond) = suc next
next_after next (Elif cond) = suc next
next_after next Else = suc next
next_after next Endif = next
next_after next (Define name gives) = next
next_after next (Undef name) = next

-- the parents of the blocks, in order from block 1
abbrev pub parents_from : ℕ → List ℕ → List Directive → List ℕ
parents_from next inside [] = []
parents_from next inside (d ∷ ds) = parent_at inside d.what ++ parents_from (next_after next d.what) (open_after next inside d.what) ds

-- the parents of all blocks of a source
abbrev pub parents_of : List Directive → List ℕ
parents_of ds = parents_from 1 [] ds

-- the number of blocks without block 0
abbrev pub count_of : List Directive → ℕ
count_of ds = length (parents_of ds)

-- the parent of a block from 1 to the count
abbrev pub parent_of : List Directive → ℕ → ℕ
parent_of ds block = get_or (parents_of ds) (block - 1) 0
