-- Names have numbers within their list, and the blocks of a source that is well formed are those that it begins.
use Rattle.std.proofs.Common.{◌≡◌, ℕ, ◌+◌, ◌<◌, ◌≤◌, zero, suc, Bool, true, false, not, ◌&&◌, ◌||◌, cond, List, [], ◌∷◌, ◌++◌, length, length-append, get_or, refl, sym, ap, subst, ◌∙◌, arith}
use Rattle.std.specs.Prelude.{Ok, is_ok}
use Rattle.std.specs.List.{list_any, list_all, flat_map, position_or_len}
use Rattle.std.proofs.lemmas.Bool.{false≢true}
use Rattle.std.proofs.lemmas.List.Folds.{list_any-append}
use Rattle.ut_text.specs.Text.{text_eq, text_equiv, text_eq-exact}
use Rattle.cpp_directives.specs.declared.directive.Directive.{Directive}
use Rattle.cpp_directives.specs.declared.directive.What.{What}
use Rattle.cpp_directives.specs.declared.directive.What.TheVariants.{If, Elif, Else, Endif, Define, Undef}
use Rattle.cpp_blocks.specs.declared.groups.OpenGroups.{OpenGroups}
use Rattle.cpp_blocks.specs.Blocks.{open_after, parent_at, next_after, parents_from}
use Rattle.cpp_blocks.specs.Formulas.{source_of}
use Rattle.cpp_blocks.specs.Mentions.{with_new, firsts, names_at, names_of, AreEachOnce}
use Rattle.cpp_blocks.specs.Steps.{Standing, current, after}
use Rattle.cpp_blocks.specs.Steps as Steps
use Rattle.cpp_directives.specs.Chains.{Earlier, Opener, Group, Closer, chain_at, passing, part_of}
use Rattle.cpp_directives.specs.WellFormed.{all_passing}
use Rattle.cpp_directives.proofs.ChainLaws.{next_passes, opening_is, turning_is, closing_is}
use Rattle.cpp_blocks.proofs.Along.{AllKnown, at_end}

-- ---- numbers of names

-- a member has a place within the list, and stands there
pub place_within : {A : Type 0} (p : A → Bool) (xs : List A) → list_any p xs ≡ true → position_or_len p xs < length xs
place_within p [] h = absurd (false≢true h)
place_within p (x ∷ xs) h = by (p x) h (place_within p xs)
  where
    by : (b : Bool) → (b || list_any p xs) ≡ true → (list_any p xs ≡ true → position_or_len p xs < length xs) → cond (not b) (1 + position_or_len p xs) 0 < suc (length xs)
    by true h f = omega arith
    by false h f = let l : position_or_len p xs < length xs = f h in omega arith

pub place_is : (x : List ℕ) (xs : List (List ℕ)) → list_any (text_eq x) xs ≡ true → get_or xs (position_or_len (text_eq x) xs) [] ≡ x
place_is x [] h = absurd (false≢true h)
place_is x (y ∷ ys) h = by (text_eq x y) refl h (place_is x ys)
  where
    next : 1 + position_or_len (text_eq x) ys ≡ suc (position_or_len (text_eq x) ys)
    next = omega arith

    by : (b : Bool) → text_eq x y ≡ b → (b || list_any (text_eq x) ys) ≡ true → (list_any (text_eq x) ys ≡ true → get_or ys (position_or_len (text_eq x) ys) [] ≡ x)
        → get_or (y ∷ ys) (cond (not b) (1 + position_or_len (text_eq x) ys) 0) [] ≡ x
    by true e h f = sym (text_eq-exact x y e)
    by false e h f = ap (λ k. get_or (y ∷ ys) k []) next ∙ f h

or_left : (a b : Bool) → a ≡ true → (a || b) ≡ true
or_left a b h = ap (λ c. c || b) h

or_right : (a b : Bool) → b ≡ true → (a || b) ≡ true
or_right true b h = refl
or_right false b h = h

-- what is seen stays, and what is new comes in
stays_in : (x y : List ℕ) (seen : List (List ℕ)) → list_any (text_eq x) seen ≡ true → list_any (text_eq x) (with_new text_eq seen y) ≡ true
stays_in x y seen h = by (list_any (text_eq y) seen)
  where
    by : (b : Bool) → list_any (text_eq x) (cond b seen (seen ++ y ∷ [])) ≡ true
    by true = h
    by false = list_any-append (text_eq x) seen (y ∷ []) ∙ or_left (list_any (text_eq x) seen) (list_any (text_eq x) (y ∷ [])) h

comes_in : (x : List ℕ) (seen : List (List ℕ)) → list_any (text_eq x) (with_new text_eq seen x) ≡ true
comes_in x seen = by (list_any (text_eq x) seen) refl
  where
    by : (b : Bool) → list_any (text_eq x) seen ≡ b → list_any (text_eq x) (cond b seen (seen ++ x ∷ [])) ≡ true
    by true e = e
    by false e = list_any-append (text_eq x) seen (x ∷ []) ∙ or_right (list_any (text_eq x) seen) (text_eq x x || false) (or_left (text_eq x x) false (text_equiv.refl x))

stays_among : (x : List ℕ) (seen more : List (List ℕ)) → list_any (text_eq x) seen ≡ true → list_any (text_eq x) (firsts text_eq seen more) ≡ true
stays_among x seen [] h = h
stays_among x seen (y ∷ more) h = stays_among x (with_new text_eq seen y) more (stays_in x y seen h)

all_among : (seen more : List (List ℕ)) → list_all (λ x. list_any (text_eq x) (firsts text_eq seen more)) more ≡ true
all_among seen [] = refl
all_among seen (y ∷ more) = (λ i. stays_among y (with_new text_eq seen y) more (comes_in y seen) i && list_all (λ x. list_any (text_eq x) (firsts text_eq (with_new text_eq seen y) more)) more) ∙ all_among (with_new text_eq seen y) more

-- the names of the directives are the source's
pub all_known : (file : ℕ) (ds : List Directive) → AllKnown (source_of file ds) ds
all_known file ds = all_among [] (flat_map (λ d. names_at d.what) ds)

-- ---- each once

is_false : (b : Bool) → (b ≡ true → ⊥) → b ≡ false
is_false true h = absurd (h refl)
is_false false h = refl

neither : (a b : Bool) → (a || b) ≡ false → (a ≡ false) × (b ≡ false)
neither true b h = absurd (false≢true (sym h))
neither false b h = (refl, h)

one_more : {A : Type 0} (eq : A → A → Bool) (symm : (x y : A) → eq x y ≡ eq y x) (seen : List A) (x : A) → AreEachOnce eq seen → list_any (eq x) seen ≡ false → AreEachOnce eq (seen ++ x ∷ [])
one_more eq symm [] x d h = (refl, tt)
one_more eq symm (y ∷ ys) x d h = let w = neither (eq x y) (list_any (eq x) ys) h in
    (list_any-append (eq y) ys (x ∷ []) ∙ (λ i. d.0 i || ((symm y x ∙ w.0) i || false)), one_more eq symm ys x d.1 w.1)

-- what is new is put after what is seen, each once
pub firsts_once : {A : Type 0} (eq : A → A → Bool) (symm : (x y : A) → eq x y ≡ eq y x) (seen more : List A) → AreEachOnce eq seen → AreEachOnce eq (firsts eq seen more)
firsts_once eq symm seen [] d = d
firsts_once eq symm seen (x ∷ more) d = by (list_any (eq x) seen) refl (firsts_once eq symm seen more d) (firsts_once eq symm (seen ++ x ∷ []) more)
  where
    by : (b : Bool) → list_any (eq x) seen ≡ b → AreEachOnce eq (firsts eq seen more) → (AreEachOnce eq (seen ++ x ∷ []) → AreEachOnce eq (firsts eq (seen ++ x ∷ []) more)) → AreEachOnce eq (firsts eq (cond b seen (seen ++ x ∷ [])) more)
    by true e old new = old
    by false e old new = new (one_more eq symm seen x d e)

pub names_once : (ds : List Directive) → AreEachOnce text_eq (names_of ds)
names_once ds = firsts_once text_eq text_equiv.symm [] (flat_map (λ d. names_at d.what) ds) tt

-- a name has its own number
number_of : (xs : List (List ℕ)) → AreEachOnce text_eq xs → (k : ℕ) → k < length xs → (list_any (text_eq (get_or xs k [])) xs ≡ true) × (position_or_len (text_eq (get_or xs k [])) xs ≡ k)
number_of [] d k l = absurd (omega arith)
number_of (x ∷ xs) d zero l = (or_left (text_eq x x) (list_any (text_eq x) xs) (text_equiv.refl x), ap (λ b. cond (not b) (1 + position_or_len (text_eq x) xs) 0) (text_equiv.refl x))
number_of (x ∷ xs) d (suc k) l = let r = number_of xs d.1 k (omega arith) in
    let apart = is_false (text_eq (get_or xs k []) x) (λ e. false≢true (sym d.0 ∙ subst (λ z. list_any (text_eq z) xs ≡ true) (text_eq-exact (get_or xs k []) x e) r.0)) in (
      or_right (text_eq (get_or xs k []) x) (list_any (text_eq (get_or xs k [])) xs) r.0,
      ap (λ b. cond (not b) (1 + position_or_len (text_eq (get_or xs k [])) xs) 0) apart ∙ next k (position_or_len (text_eq (get_or xs k [])) xs) r.1,
    )
  where
    next : (k p : ℕ) → p ≡ k → 1 + p ≡ suc k
    next k p e = omega arith

pub name_number : (ds : List Directive) (k : ℕ) → k < length (names_of ds) → (list_any (text_eq (get_or (names_of ds) k [])) (names_of ds) ≡ true) × (position_or_len (text_eq (get_or (names_of ds) k [])) (names_of ds) ≡ k)
name_number ds k l = number_of (names_of ds) (names_once ds) k l

-- ---- the number of blocks

-- as many chains are open at least as the earlier directives tell
abbrev pub Covers : List Earlier → List OpenGroups → Type 0
Covers before chains = (k : ℕ) → length chains ≤ k → chain_at before k ≡ []

pub none_covered : Covers [] []
none_covered k l = refl

-- what a directive that may stand there leaves
pub record Next (more : List Earlier) (at : Standing) (inside : List ℕ) (w : What) : Type 0 where
  pub next_is : (after at w).next ≡ at.next + length (parent_at inside w)
  pub covers : Covers more (after at w).chains

open_covers : (n : ℕ) (before : List Earlier) (c : OpenGroups) (chains : List OpenGroups) → Covers before chains → Covers (Opener n ∷ before) (c ∷ chains)
open_covers n before c chains h zero l = absurd (omega arith)
open_covers n before c chains h (suc k) l = h k (omega arith)

turn_covers : (e : Bool) (before : List Earlier) (c d : OpenGroups) (cs : List OpenGroups) → Covers before (c ∷ cs) → Covers (Group e ∷ before) (d ∷ cs)
turn_covers e before c d cs h zero l = absurd (omega arith)
turn_covers e before c d cs h (suc k) l = h (suc k) l

turn_next : (e : Bool) (before more : List Earlier) (at : Standing) (chains : List OpenGroups) → Covers before chains → more ≡ Group e ∷ before → (chain_at before 0 ≡ [] → ⊥)
    → ((Steps.turned at chains).next ≡ at.next + 1) × Covers more (Steps.turned at chains).chains
turn_next e before more at [] h is some = absurd (some (h 0 (omega arith)))
turn_next e before more at (c ∷ cs) h is some = (
  omega arith,
  subst (λ (b : List Earlier). Covers b (record { parent = c.parent; earlier = c.earlier ++ c.current ∷ []; current = at.next } ∷ cs)) (sym is)
      (turn_covers e before c (record { parent = c.parent; earlier = c.earlier ++ c.current ∷ []; current = at.next }) cs h),
)

close_covers : (before more : List Earlier) (chains : List OpenGroups) → Covers before chains → more ≡ Closer ∷ before → (chain_at before 0 ≡ [] → ⊥) → Covers more (Steps.round chains)
close_covers before more [] h is some = absurd (some (h 0 (omega arith)))
close_covers before more (c ∷ cs) h is some = subst (λ (b : List Earlier). Covers b cs) (sym is) (λ k l. h (suc k) (omega arith))

pub next_step : (w : What) (n : ℕ) (at : Standing) (before more : List Earlier) (inside : List ℕ) → Covers before at.chains → passing (part_of w) n before ≡ Ok more → Next more at inside w
next_step (If c) n at before more inside h p = record {
  next_is = omega arith;
  covers = subst (λ (b : List Earlier). Covers b (after at (If c)).chains) (sym (opening_is n before more p).0) (open_covers n before (record { parent = current at.chains; earlier = []; current = at.next }) at.chains h);
}
next_step (Elif c) n at before more inside h p = let t = turning_is false n before (chain_at before 0) more p in
    let go = turn_next false before more at at.chains h t.0 t.2 in record { next_is = go.0; covers = go.1 }
next_step Else n at before more inside h p = let t = turning_is true n before (chain_at before 0) more p in
    let go = turn_next true before more at at.chains h t.0 t.2 in record { next_is = go.0; covers = go.1 }
next_step Endif n at before more inside h p = let t = closing_is n before (chain_at before 0) more p in
    record { next_is = omega arith; covers = close_covers before more at.chains h t.0 t.1 }
next_step (Define x gives) n at before more inside h p = let same : before ≡ more = cc in record { next_is = omega arith; covers = subst (λ (b : List Earlier). Covers b at.chains) same h }
next_step (Undef x) n at before more inside h p = let same : before ≡ more = cc in record { next_is = omega arith; covers = subst (λ (b : List Earlier). Covers b at.chains) same h }

-- the next block after directives that may stand where they do
pub next_at_end : (ds : List Directive) (at : Standing) (before : List Earlier) (next : ℕ) (inside : List ℕ) → Covers before at.chains → is_ok (all_passing before ds) ≡ true
    → (at_end at ds).next ≡ at.next + length (parents_from next inside ds)
next_at_end [] at before next inside h m = omega arith
next_at_end (d ∷ ds) at before next inside h m =
    let p = next_passes before d ds m in
    let s = next_step d.what d.line at before p.0 inside h p.1 in
    let step : (after at d.what).next ≡ at.next + length (parent_at inside d.what) = s.next_is in
    let rest : (at_end (after at d.what) ds).next ≡ (after at d.what).next + length (parents_from (next_after next d.what) (open_after next inside d.what) ds) = next_at_end ds (after at d.what) p.0 (next_after next d.what) (open_after next inside d.what) s.covers p.2 in
    let all : length (parent_at inside d.what ++ parents_from (next_after next d.what) (open_after next inside d.what) ds) ≡ length (parent_at inside d.what) + length (parents_from (next_after next d.what) (open_after next inside d.what) ds) = length-append (parent_at inside d.what) (parents_from (next_after next d.what) (open_after next inside d.what) ds) in
    omega (arith, step, rest, all)
