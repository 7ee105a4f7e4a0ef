-- What the steps of chains leave, and that a source has few blocks.
use Rattle.std.proofs.Common.{◌≡◌, ℕ, ◌+◌, ◌<◌, ◌≤◌, suc, Bool, true, false, ◌||◌, cond, List, [], ◌∷◌, length, refl, sym, ap, ◌∙◌, subst, arith}
use Rattle.std.specs.Prelude.{Result, Ok, Err, is_ok, nat_le}
use Rattle.std.proofs.lemmas.Bool.{false≢true}
use Rattle.std.proofs.lemmas.Bool.Decides.{nat_tests}
use Rattle.std.proofs.lemmas.List.Sums.{sum_by-cons}
use Rattle.ut_text.specs.Results.{◌>>=◌}
use Rattle.cpp_directives.specs.Limits.{most_depth, most_groups, most_blocks}
use Rattle.cpp_directives.specs.declared.bad.CppBad.{CppBad}
use Rattle.cpp_directives.specs.declared.bad.CppBad.TheVariants.{ElseTwice, Depth, TooMany}
use Rattle.cpp_directives.specs.declared.directive.Directive.{Directive}
use Rattle.cpp_directives.specs.declared.directive.What.{What}
use Rattle.cpp_directives.specs.declared.directive.What.TheVariants.{If, Elif, Else, Endif, Define, Undef}
use Rattle.cpp_directives.specs.Chains.{Earlier, Opener, Group, Closer, chain_at, depth_of, blocks_of, has_else, opening, turning, closing, passing, part_of}
use Rattle.cpp_directives.specs.WellFormed.{all_passing, begins_block, block_count, IsWellFormed}

-- where the directives may stand, so may the first of them, and then the others
pub next_passes : (before : List Earlier) (d : Directive) (ds : List Directive) → is_ok (all_passing before (d ∷ ds)) ≡ true
    → (more : List Earlier) × (passing (part_of d.what) d.line before ≡ Ok more) × (is_ok (all_passing more ds) ≡ true)
next_passes before d ds h = by (passing (part_of d.what) d.line before) refl h
  where
    by : (r : Result (List Earlier) CppBad) → passing (part_of d.what) d.line before ≡ r → is_ok (r >>= λ more. all_passing more ds) ≡ true
        → (more : List Earlier) × (passing (part_of d.what) d.line before ≡ Ok more) × (is_ok (all_passing more ds) ≡ true)
    by (Ok more) e h = (more, e, h)
    by (Err f) e h = absurd (false≢true h)

below : (a b : ℕ) → nat_le a b ≡ false → b < a
below a b h = grind (arith, nat_tests)

either_no : (a b : Bool) → (a || b) ≡ false → a ≡ false
either_no true b h = h
either_no false b h = refl

-- an opener that may stand there
pub opening_is : (n : ℕ) (before more : List Earlier) → opening n before ≡ Ok more → (more ≡ Opener n ∷ before) × (blocks_of before < most_blocks)
opening_is n before more h = by (nat_le most_depth (depth_of before)) (nat_le most_blocks (blocks_of before)) refl h
  where
    by : (x y : Bool) → nat_le most_blocks (blocks_of before) ≡ y → cond x (Err (Depth n)) (cond y (Err (TooMany n)) (Ok (Opener n ∷ before))) ≡ Ok more → (more ≡ Opener n ∷ before) × (blocks_of before < most_blocks)
    by true y e h = absurd (cc)
    by false true e h = absurd (cc)
    by false false e h = let is : more ≡ Opener n ∷ before = cc in (is, below most_blocks (blocks_of before) e)

-- a group that may stand there
pub turning_is : (is_else : Bool) (n : ℕ) (before chain more : List Earlier) → turning is_else n before chain ≡ Ok more → (more ≡ Group is_else ∷ before) × (blocks_of before < most_blocks) × (chain ≡ [] → ⊥)
turning_is is_else n before [] more h = absurd (cc)
turning_is is_else n before (x ∷ xs) more h = by (has_else (x ∷ xs)) (nat_le most_blocks (blocks_of before) || nat_le most_groups (length (x ∷ xs))) refl h
  where
    some : (x ∷ xs ≡ []) → ⊥
    some e = absurd (cc)

    by : (p q : Bool) → (nat_le most_blocks (blocks_of before) || nat_le most_groups (length (x ∷ xs))) ≡ q
        → cond p (Err (ElseTwice n)) (cond q (Err (TooMany n)) (Ok (Group is_else ∷ before))) ≡ Ok more → (more ≡ Group is_else ∷ before) × (blocks_of before < most_blocks) × ((x ∷ xs ≡ []) → ⊥)
    by true q e h = absurd (cc)
    by false true e h = absurd (cc)
    by false false e h = let is : more ≡ Group is_else ∷ before = cc in
        (is, below most_blocks (blocks_of before) (either_no (nat_le most_blocks (blocks_of before)) (nat_le most_groups (length (x ∷ xs))) e), some)

-- a closer that may stand there
pub closing_is : (n : ℕ) (before chain more : List Earlier) → closing n before chain ≡ Ok more → (more ≡ Closer ∷ before) × (chain ≡ [] → ⊥)
closing_is n before [] more h = absurd (cc)
closing_is n before (x ∷ xs) more h = let is : more ≡ Closer ∷ before = cc in (is, some)
  where
    some : (x ∷ xs ≡ []) → ⊥
    some e = absurd (cc)

-- how many blocks a directive begins
abbrev pub begun : What → ℕ
begun w = cond (begins_block w) 1 0

-- a directive that may stand there leaves few blocks
begins_few : (w : What) (n : ℕ) (before more : List Earlier) → blocks_of before ≤ most_blocks → passing (part_of w) n before ≡ Ok more → (blocks_of more ≡ begun w + blocks_of before) × (blocks_of more ≤ most_blocks)
begins_few (If c) n before more few h = let o = opening_is n before more h in let e : blocks_of more ≡ suc (blocks_of before) = ap blocks_of o.0 in (omega (arith, e), omega (arith, e, o.1))
begins_few (Elif c) n before more few h = let o = turning_is false n before (chain_at before 0) more h in let e : blocks_of more ≡ suc (blocks_of before) = ap blocks_of o.0 in (omega (arith, e), omega (arith, e, o.1))
begins_few Else n before more few h = let o = turning_is true n before (chain_at before 0) more h in let e : blocks_of more ≡ suc (blocks_of before) = ap blocks_of o.0 in (omega (arith, e), omega (arith, e, o.1))
begins_few Endif n before more few h = let o = closing_is n before (chain_at before 0) more h in let e : blocks_of more ≡ blocks_of before = ap blocks_of o.0 in (omega (arith, e), omega (arith, e, few))
begins_few (Define x g) n before more few h = let is : before ≡ more = cc in let e : blocks_of before ≡ blocks_of more = ap blocks_of is in (omega (arith, e), omega (arith, e, few))
begins_few (Undef x) n before more few h = let is : before ≡ more = cc in let e : blocks_of before ≡ blocks_of more = ap blocks_of is in (omega (arith, e), omega (arith, e, few))

few_from : (ds : List Directive) (before : List Earlier) → blocks_of before ≤ most_blocks → is_ok (all_passing before ds) ≡ true → blocks_of before + block_count ds ≤ most_blocks
few_from [] before few h = omega (arith, few)
few_from (d ∷ ds) before few h =
    let next = next_passes before d ds h in
    let step = begins_few d.what d.line before next.0 few next.1 in
    let rest : blocks_of next.0 + block_count ds ≤ most_blocks = few_from ds next.0 step.1 next.2 in
    let all : block_count (d ∷ ds) ≡ begun d.what + block_count ds = sum_by-cons (λ (x : Directive). cond (begins_block x.what) 1 0) d ds in
    omega (arith, rest, all, step.0)

-- a source has at most 65,535 blocks without block 0
pub few_blocks : (ds : List Directive) → IsWellFormed ds → block_count ds ≤ most_blocks
few_blocks ds formed = let all : 0 + block_count ds ≤ most_blocks = few_from ds [] (omega arith) formed.chains in omega (arith, all)
