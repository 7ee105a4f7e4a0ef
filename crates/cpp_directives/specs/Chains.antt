-- Chains of conditional directives, told by what stands before a directive: its chain is the innermost one that an
-- earlier `#if` opened and no `#endif` closed. A chain has at most 1,024 groups, at most 250 chains are open at once,
-- and a source has at most 65,535 blocks. Rule: ISO C, "Conditional inclusion"; the limits are this project's.
use Rattle.std.specs.Prelude.{ℕ, zero, suc, ◌-◌, Bool, true, false, ◌||◌, nat_le, length, Result, Ok, Err, List, [], ◌∷◌, if◌then◌else◌}
use Rattle.cpp_directives.specs.Limits.{most_depth, most_groups, most_blocks}
use Rattle.cpp_directives.specs.declared.bad.CppBad.{CppBad}
use Rattle.cpp_directives.specs.declared.bad.CppBad.TheVariants.{Unbalanced, ElseTwice, Depth, TooMany, Unclosed}
use Rattle.cpp_directives.specs.declared.directive.What.{What}
use Rattle.cpp_directives.specs.declared.directive.What.TheVariants.{If, Elif, Else, Endif, Define, Undef}
use Rattle.cpp_directives.specs.declared.part.Part.{Part}
use Rattle.cpp_directives.specs.declared.part.Part.TheVariants as part

-- an earlier conditional directive: an `#if` on this line, an `#elif` or (true) an `#else`, or an `#endif`
pub data Earlier : Type 0 where
  Opener : ℕ → Earlier
  Group : Bool → Earlier
  Closer : Earlier

-- the directives of the chain round a place so far, the last one first, where the earlier directives stand with the last
-- one first; so many of the chains that are open are left out, from the innermost
abbrev pub chain_at : List Earlier → ℕ → List Earlier
chain_at [] skip = []
chain_at (Opener n ∷ before) zero = Opener n ∷ []
chain_at (Opener n ∷ before) (suc skip) = chain_at before skip
chain_at (Group e ∷ before) zero = Group e ∷ chain_at before zero
chain_at (Group e ∷ before) (suc skip) = chain_at before (suc skip)
chain_at (Closer ∷ before) skip = chain_at before (suc skip)

-- how many chains are open
abbrev pub depth_of : List Earlier → ℕ
depth_of [] = 0
depth_of (Opener n ∷ before) = suc (depth_of before)
depth_of (Group e ∷ before) = depth_of before
depth_of (Closer ∷ before) = depth_of before - 1

-- how many blocks were begun
abbrev pub blocks_of : List Earlier → ℕ
blocks_of [] = 0
blocks_of (Opener n ∷ before) = suc (blocks_of before)
blocks_of (Group e ∷ before) = suc (blocks_of before)
blocks_of (Closer ∷ before) = blocks_of before

-- whether a chain has its `#else`
abbrev pub has_else : List Earlier → Bool
has_else [] = false
has_else (Opener n ∷ chain) = has_else chain
has_else (Group e ∷ chain) = e || has_else chain
has_else (Closer ∷ chain) = has_else chain

-- the line of the `#if` that opened a chain
abbrev pub opener_line : List Earlier → ℕ
opener_line [] = 0
opener_line (Opener n ∷ chain) = n
opener_line (Group e ∷ chain) = opener_line chain
opener_line (Closer ∷ chain) = opener_line chain

-- an `#if` on line n may stand there
abbrev pub opening : ℕ → List Earlier → Result (List Earlier) CppBad
opening n before =
    if nat_le most_depth (depth_of before) then Err (Depth n)
    else if nat_le most_blocks (blocks_of before) then Err (TooMany n) else Ok (Opener n ∷ before)

-- an `#elif` or `#else` on line n may go on with a chain of these directives
abbrev pub turning : Bool → ℕ → List Earlier → List Earlier → Result (List Earlier) CppBad
turning is_else n before [] = Err (Unbalanced n)
turning is_else n before (e ∷ es) =
    if has_else (e ∷ es) then Err (ElseTwice n)
    else if nat_le most_blocks (blocks_of before) || nat_le most_groups (length (e ∷ es)) then Err (TooMany n)
    else Ok (Group is_else ∷ before)

-- an `#endif` on line n may end a chain of these directives
abbrev pub closing : ℕ → List Earlier → List Earlier → Result (List Earlier) CppBad
closing n before [] = Err (Unbalanced n)
closing n before (e ∷ es) = Ok (Closer ∷ before)

-- what stands before the next directive, after one of this part on line n; or why that one may not stand there
abbrev pub passing : Part → ℕ → List Earlier → Result (List Earlier) CppBad
passing part.If n before = opening n before
passing part.Elif n before = turning false n before (chain_at before 0)
passing part.Else n before = turning true n before (chain_at before 0)
passing part.Endif n before = closing n before (chain_at before 0)
passing part.Other n before = Ok before

-- no chain is left open by these directives; else the innermost one is named by its opener's line
abbrev pub ending : List Earlier → List Earlier → Result (List Earlier) CppBad
ending before [] = Ok before
ending before (e ∷ es) = Err (Unclosed (opener_line (e ∷ es)))

-- the end of a text
abbrev pub at_end : List Earlier → Result (List Earlier) CppBad
at_end before = ending before (chain_at before 0)

-- the part of a directive
abbrev pub part_of : What → Part
part_of (If cond) = part.If
part_of (Elif cond) = part.Elif
part_of Else = part.Else
part_of Endif = part.Endif
part_of (Define name gives) = part.Other
part_of (Undef name) = part.Other
