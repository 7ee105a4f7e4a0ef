-- The stack of open chains goes on as the chains do.
use Rattle.std.proofs.Common.{◌≡◌, ℕ, ◌+◌, ◌-◌, zero, suc, Bool, true, false, ◌||◌, cond, List, [], ◌∷◌, length, slice_get, Some, None, refl, sym, ap, ◌∙◌, subst, arith}
use Rattle.std.specs.Prelude.{Option, Result, Ok, Err, nat_le}
use Rattle.std.proofs.lemmas.Option.{none-some}
use Rattle.cpp_directives.specs.Limits.{most_depth, most_groups, most_blocks}
use Rattle.cpp_directives.specs.declared.bad.CppBad.{CppBad}
use Rattle.cpp_directives.specs.declared.bad.CppBad.TheVariants.{Unbalanced, ElseTwice, Depth, TooMany, Unclosed}
use Rattle.cpp_directives.specs.declared.open_chains.Chain.{Chain}
use Rattle.cpp_directives.specs.declared.part.Part.{Part}
use Rattle.cpp_directives.specs.declared.part.Part.TheVariants as part
use Rattle.cpp_directives.specs.Chains.{Earlier, Opener, Group, Closer, chain_at, depth_of, blocks_of, has_else, opener_line, opening, turning, closing, passing, ending, at_end}
use Rattle.cpp_directives.specs.Refusals.{Fails}
use Rattle.cpp_directives.specs.Stack.{ChainState, no_chains, summary, IsStackOf, opened, is_full, turned, closed, chained, ended, Steps, StackEnds, Passes, Ends}
use Rattle.cpp_directives.proofs.RefusalLaws.{fails_by}

-- both go on alike, or are refused alike
Agree : Result ChainState CppBad → Result (List Earlier) CppBad → Type 0
Agree (Ok b) (Ok more) = IsStackOf b more
Agree (Err e) (Err f) = e ≡ f
Agree (Ok b) (Err f) = ⊥
Agree (Err e) (Ok more) = ⊥

pub none_open : IsStackOf no_chains []
none_open = record { chains = λ k. refl; depth = refl; blocks = refl }

or_false : (b e : Bool) → b ≡ false → (e || b) ≡ e
or_false b true h = refl
or_false b false h = h

open_agree : (n : ℕ) (b : ChainState) (before : List Earlier) → IsStackOf b before → Agree (opened n b) (opening n before)
unfolding Agree
open_agree n b before s = subst (λ d. Agree (opened n b) (cond (nat_le most_depth d) (Err (Depth n)) (cond (nat_le most_blocks (blocks_of before)) (Err (TooMany n)) (Ok (Opener n ∷ before))))) s.depth
    (subst (λ k. Agree (opened n b) (cond (nat_le most_depth (length b.chains)) (Err (Depth n)) (cond (nat_le most_blocks k) (Err (TooMany n)) (Ok (Opener n ∷ before))))) s.blocks
    (by (nat_le most_depth (length b.chains)) (nat_le most_blocks b.count)))
  where
    more : (k : ℕ) → slice_get (record { line = n; has_else = false; groups = 1 } ∷ b.chains) k ≡ summary (chain_at (Opener n ∷ before) k)
    more zero = refl
    more (suc k) = s.chains k

    by : (x y : Bool) → Agree (cond x (Err (Depth n)) (cond y (Err (TooMany n)) (Ok (record { chains = record { line = n; has_else = false; groups = 1 } ∷ b.chains; count = b.count + 1 }))))
        (cond x (Err (Depth n)) (cond y (Err (TooMany n)) (Ok (Opener n ∷ before))))
    by true y = refl
    by false true = refl
    by false false = record { chains = more; depth = ap suc s.depth; blocks = omega (arith, s.blocks) }

turn_agree : (is_else : Bool) (n count : ℕ) (cs : List Chain) (before chain : List Earlier) → chain_at before 0 ≡ chain → IsStackOf (record { chains = cs; count = count }) before → Agree (turned is_else n count cs) (turning is_else n before chain)
unfolding Agree
turn_agree is_else n count [] before [] e s = refl
turn_agree is_else n count [] before (x ∷ xs) e s = absurd (none-some _ (s.chains 0 ∙ ap summary e))
turn_agree is_else n count (c ∷ cs) before [] e s = absurd (none-some _ (sym (s.chains 0 ∙ ap summary e)))
turn_agree is_else n count (c ∷ cs) before (x ∷ xs) e s = go c (kept (s.chains 0 ∙ ap summary e))
  where
    kept : Some c ≡ Some (record { line = opener_line (x ∷ xs); has_else = has_else (x ∷ xs); groups = length (x ∷ xs) }) → record { line = opener_line (x ∷ xs); has_else = has_else (x ∷ xs); groups = length (x ∷ xs) } ≡ c
    kept h = cc

    by : (no b : Bool) → has_else (x ∷ xs) ≡ no → Agree (cond no (Err (ElseTwice n)) (cond b (Err (TooMany n)) (Ok (record { chains = record { line = opener_line (x ∷ xs); has_else = is_else; groups = length (x ∷ xs) + 1 } ∷ cs; count = count + 1 }))))
        (cond no (Err (ElseTwice n)) (cond b (Err (TooMany n)) (Ok (Group is_else ∷ before))))
    by true b h = refl
    by false true h = refl
    by false false h = record { chains = more; depth = s.depth; blocks = omega (arith, s.blocks) }
      where
        more : (k : ℕ) → slice_get (record { line = opener_line (x ∷ xs); has_else = is_else; groups = length (x ∷ xs) + 1 } ∷ cs) k ≡ summary (chain_at (Group is_else ∷ before) k)
        more zero = (λ i. Some (record { line = opener_line (x ∷ xs); has_else = sym (or_false (has_else (x ∷ xs)) is_else h) i; groups = one i })) ∙ ap (λ (es : List Earlier). summary (Group is_else ∷ es)) (sym e)
          where
            one : length (x ∷ xs) + 1 ≡ suc (length (x ∷ xs))
            one = omega arith
        more (suc k) = s.chains (suc k)

    go : (d : Chain) → record { line = opener_line (x ∷ xs); has_else = has_else (x ∷ xs); groups = length (x ∷ xs) } ≡ d → Agree (turned is_else n count (d ∷ cs)) (turning is_else n before (x ∷ xs))
    go d same = subst (λ (d : Chain). Agree (turned is_else n count (d ∷ cs)) (turning is_else n before (x ∷ xs))) same
        (subst (λ k. Agree (turned is_else n count (record { line = opener_line (x ∷ xs); has_else = has_else (x ∷ xs); groups = length (x ∷ xs) } ∷ cs))
        (cond (has_else (x ∷ xs)) (Err (ElseTwice n)) (cond (nat_le most_blocks k || nat_le most_groups (length (x ∷ xs))) (Err (TooMany n)) (Ok (Group is_else ∷ before))))) s.blocks
        (by (has_else (x ∷ xs)) (nat_le most_blocks count || nat_le most_groups (length (x ∷ xs))) refl))

close_agree : (n count : ℕ) (cs : List Chain) (before chain : List Earlier) → chain_at before 0 ≡ chain → IsStackOf (record { chains = cs; count = count }) before → Agree (closed n count cs) (closing n before chain)
unfolding Agree
close_agree n count [] before [] e s = refl
close_agree n count [] before (x ∷ xs) e s = absurd (none-some _ (s.chains 0 ∙ ap summary e))
close_agree n count (c ∷ cs) before [] e s = absurd (none-some _ (sym (s.chains 0 ∙ ap summary e)))
close_agree n count (c ∷ cs) before (x ∷ xs) e s = record { chains = λ k. s.chains (suc k); depth = omega (arith, s.depth); blocks = s.blocks }

agree : (p : Part) (n : ℕ) (b : ChainState) (before : List Earlier) → IsStackOf b before → Agree (chained p n b) (passing p n before)
unfolding Agree
agree part.If n b before s = open_agree n b before s
agree part.Elif n b before s = turn_agree false n b.count b.chains before (chain_at before 0) refl s
agree part.Else n b before s = turn_agree true n b.count b.chains before (chain_at before 0) refl s
agree part.Endif n b before s = close_agree n b.count b.chains before (chain_at before 0) refl s
agree part.Other n b before s = s

agree_ok : (u : Unit {0}) (b : ChainState) (read : Result (List Earlier) CppBad) → Agree (Ok b) read → Passes (Ok u) b read
unfolding Agree
agree_ok u b (Ok more) a = (more, refl, a)
agree_ok u b (Err e) a = absurd a

agree_err : (e : CppBad) (read : Result (List Earlier) CppBad) → Agree (Err e) read → read ≡ Err e
unfolding Agree
agree_err e (Ok more) a = absurd a
agree_err e (Err f) a = ap Err (sym a)

-- a step of the stack is one of the chains
pub steps_pass : (result : Result (Unit {0}) CppBad) (new : ChainState) (p : Part) (n : ℕ) (old : ChainState) (before : List Earlier) → IsStackOf old before → Steps result new (chained p n old) → Passes result new (passing p n before)
steps_pass (Ok u) new p n old before s h = agree_ok u new (passing p n before) (subst (λ (r : Result ChainState CppBad). Agree r (passing p n before)) h (agree p n old before s))
steps_pass (Err e) new p n old before s h = fails_by e (chained p n old) (passing p n before)
    (λ k is. agree_err k (passing p n before) (subst (λ (r : Result ChainState CppBad). Agree r (passing p n before)) is (agree p n old before s))) h

end_none : (cs : List Chain) (before chain : List Earlier) → slice_get cs 0 ≡ summary chain → cs ≡ [] → ending before chain ≡ Ok before
end_none cs before [] h e = refl
end_none cs before (x ∷ xs) h e = absurd (none-some _ (sym (ap (λ (ds : List Chain). slice_get ds 0) e) ∙ h))

end_some : (k : CppBad) (cs : List Chain) (before chain : List Earlier) → slice_get cs 0 ≡ summary chain → ended cs ≡ Err k → ending before chain ≡ Err k
end_some k [] before chain h e = absurd (cc)
end_some k (c ∷ cs) before [] h e = absurd (none-some _ (sym h))
end_some k (c ∷ cs) before (x ∷ xs) h e = let p : Unclosed c.line ≡ k = cc in ap (λ l. Err (Unclosed l)) line ∙ ap (λ (b : CppBad). Err b) p
  where
    same : Some c ≡ Some (record { line = opener_line (x ∷ xs); has_else = has_else (x ∷ xs); groups = length (x ∷ xs) }) → record { line = opener_line (x ∷ xs); has_else = has_else (x ∷ xs); groups = length (x ∷ xs) } ≡ c
    same q = cc

    line : opener_line (x ∷ xs) ≡ c.line
    line = ap (λ (d : Chain). d.line) (same h)

-- and so is its end
pub stack_ends : (result : Result (Unit {0}) CppBad) (b : ChainState) (before : List Earlier) → IsStackOf b before → StackEnds result b.chains → Ends result before
stack_ends (Ok u) b before s h = end_none b.chains before (chain_at before 0) (s.chains 0) h
stack_ends (Err e) b before s h = fails_by e (ended b.chains) (at_end before) (λ k is. end_some k b.chains before (chain_at before 0) (s.chains 0) is) h
