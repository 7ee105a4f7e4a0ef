-- The lines of blocks: a block has the lines from its opening directive up to the line before the next
-- directive of its chain, and a line outside all blocks belongs to the file, which is block 0.
-- Rule: ISO C, "Conditional inclusion"; the numbers are this project's rule.
use Rattle.std.specs.Prelude.{ℕ, suc, ◌-◌, nat_le, List, [], ◌∷◌, ◌++◌, filter, get_or}
use Rattle.cpp_directives.specs.declared.directive.Directive.{Directive}
use Rattle.cpp_directives.specs.declared.directive.What.{What}
use Rattle.cpp_directives.specs.declared.directive.What.TheVariants.{If, Elif, Else, Endif, Define, Undef}
use Rattle.cpp_blocks.specs.Blocks.{innermost, open_after, next_after}

-- the open blocks after directives, innermost first
abbrev pub inside_after : ℕ → List ℕ → List Directive → List ℕ
inside_after next inside [] = inside
inside_after next inside (d ∷ ds) = inside_after (next_after next d.what) (open_after next inside d.what) ds

-- the innermost block that has a line: the innermost one open after the directives up to that line
abbrev pub block_at : List Directive → ℕ → ℕ
block_at ds line = innermost (inside_after 1 [] (filter (λ d. nat_le d.line line) ds))

-- the place of a directive that begins a block
abbrev pub opener_at : ℕ → What → List ℕ
opener_at place (If cond) = place ∷ []
opener_at place (Elif cond) = place ∷ []
opener_at place Else = place ∷ []
opener_at place Endif = []
opener_at place (Define name gives) = []
opener_at place (Undef name) = []

-- the places of the directives that begin blocks, where the first directive stands at this place
abbrev pub openers_from : ℕ → List Directive → List ℕ
openers_from place [] = []
openers_from place (d ∷ ds) = opener_at place d.what ++ openers_from (suc place) ds

-- the place in the list of the directive that begins a block, for a block from 1 to the count
abbrev pub opener_of : List Directive → ℕ → ℕ
opener_of ds block = get_or (openers_from 0 ds) (block - 1) 0
