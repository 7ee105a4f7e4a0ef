-- What the functions on chains promise each other: the open chains as a stack, and what it stands for.
-- This project's own; of the contracts of public calls those of `OpenChains` rest on `IsStackOf`.
use Rattle.std.specs.Prelude.{◌≡◌, ℕ, ◌+◌, Bool, true, false, ◌||◌, nat_le, length, slice_get, Option, None, Some, Result, Ok, Err, is_ok, List, [], ◌∷◌, if◌then◌else◌}
use Rattle.cpp_directives.specs.Limits.{most_depth, most_groups, most_blocks}
use Rattle.cpp_directives.specs.declared.bad.CppBad.{CppBad}
use Rattle.cpp_directives.specs.declared.bad.CppBad.TheVariants.{Unbalanced, ElseTwice, Depth, TooMany, Unclosed}
use Rattle.cpp_directives.specs.declared.open_chains.Chain.{Chain}
use Rattle.cpp_directives.specs.declared.part.Part.{Part}
use Rattle.cpp_directives.specs.declared.part.Part.TheVariants as part
use Rattle.cpp_directives.specs.Chains.{Earlier, chain_at, depth_of, blocks_of, has_else, opener_line, at_end}
use Rattle.cpp_directives.specs.Refusals.{Fails}

-- the open chains, innermost first, and the number of blocks so far
pub record ChainState : Type 0 where
  pub chains : List Chain
  pub count : ℕ

-- no chain is open and no block was met
abbrev pub no_chains : ChainState
no_chains = record { chains = []; count = 0 }

-- what is kept of a chain
abbrev pub summary : List Earlier → Option Chain
summary [] = None
summary (e ∷ es) = Some (record { line = opener_line (e ∷ es); has_else = has_else (e ∷ es); groups = length (e ∷ es) })

-- the stack has what is kept of each open chain
pub record IsStackOf (b : ChainState) (before : List Earlier) : Type 0 where
  pub chains : (k : ℕ) → slice_get b.chains k ≡ summary (chain_at before k)
  pub depth : length b.chains ≡ depth_of before
  pub blocks : b.count ≡ blocks_of before

-- a chain is opened with its first group
abbrev pub opened : ℕ → ChainState → Result ChainState CppBad
opened n b =
    if nat_le most_depth (length b.chains) then Err (Depth n)
    else if nat_le most_blocks b.count then Err (TooMany n)
    else Ok (record { chains = record { line = n; has_else = false; groups = 1 } ∷ b.chains; count = b.count + 1 })

-- one more block or group is too many
abbrev pub is_full : ℕ → Chain → Bool
is_full count c = nat_le most_blocks count || nat_le most_groups c.groups

-- one more group of the innermost chain
abbrev pub turned : Bool → ℕ → ℕ → List Chain → Result ChainState CppBad
turned is_else n count [] = Err (Unbalanced n)
turned is_else n count (c ∷ cs) =
    if c.has_else then Err (ElseTwice n)
    else if is_full count c then Err (TooMany n)
    else Ok (record { chains = record { line = c.line; has_else = is_else; groups = c.groups + 1 } ∷ cs; count = count + 1 })

-- the innermost chain is closed
abbrev pub closed : ℕ → ℕ → List Chain → Result ChainState CppBad
closed n count [] = Err (Unbalanced n)
closed n count (c ∷ cs) = Ok (record { chains = cs; count = count })

-- what a directive on line n does
abbrev pub chained : Part → ℕ → ChainState → Result ChainState CppBad
chained part.If n b = opened n b
chained part.Elif n b = turned false n b.count b.chains
chained part.Else n b = turned true n b.count b.chains
chained part.Endif n b = closed n b.count b.chains
chained part.Other n b = Ok b

-- no chain is open, or the innermost one is named
abbrev pub ended : List Chain → Result (List Chain) CppBad
ended [] = Ok []
ended (c ∷ cs) = Err (Unclosed c.line)

-- what a step answers, and what it leaves
abbrev pub Steps : Result (Unit {0}) CppBad → ChainState → Result ChainState CppBad → Type 0
Steps (Ok u) new read = read ≡ Ok new
Steps (Err e) new read = Fails e read

-- the same of the end
abbrev pub StackEnds : Result (Unit {0}) CppBad → List Chain → Type 0
StackEnds (Ok u) chains = chains ≡ []
StackEnds (Err e) chains = Fails e (ended chains)

-- the stack goes on as the chains do, where they go on
abbrev pub Passes : Result (Unit {0}) CppBad → ChainState → Result (List Earlier) CppBad → Type 0
Passes (Ok u) new read = (more : List Earlier) × (read ≡ Ok more) × IsStackOf new more
Passes (Err e) new read = Fails e read

-- the same where it is only told whether they go on
abbrev pub Allows : Bool → ChainState → Result (List Earlier) CppBad → Type 0
Allows true new read = (more : List Earlier) × (read ≡ Ok more) × IsStackOf new more
Allows false new read = is_ok read ≡ false

-- whether no chain is open at the end
abbrev pub Ends : Result (Unit {0}) CppBad → List Earlier → Type 0
Ends (Ok u) before = at_end before ≡ Ok before
Ends (Err e) before = Fails e (at_end before)
