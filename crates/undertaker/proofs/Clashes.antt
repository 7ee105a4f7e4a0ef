-- Wishes that don't clash can be met by states of the macros, and no others can.
use Rattle.std.proofs.Common.{◌≡◌, ℕ, ◌==◌, Bool, true, false, not, ◌&&◌, refl, ap, sym, subst, ◌∙◌, arith, List, [], ◌∷◌, get_or, inl, inr}
use Rattle.std.proofs.lemmas.Grind.{common_steps}
use Rattle.std.proofs.lemmas.Bool.Decides.{nat_tests}
use Rattle.std.specs.List.{list_any}
use Rattle.ut_text.specs.Text.{text_eq}
use Rattle.cpp_blocks.specs.declared.state.MacroState.{MacroState}
use Rattle.cpp_blocks.specs.Run.{is_defined}
use Rattle.undertaker.specs.declared.wishes.Wish.{Wish}
use Rattle.undertaker.specs.Wishes.{agrees, macro_of, is_met, are_met, clash, clashes_with, clashes}
use Rattle.undertaker.specs.Wishes.{Among}
use Rattle.undertaker.specs.Judging.{AreNumbered}
use Rattle.undertaker.proofs.Bools.{any_among, none_from_among, any_from_among, all_among, and_both, and_left, and_right, or_left_false, or_right_false, number_is, same_number}
use Rattle.undertaker.proofs.Texts.{same_text}

pub agrees_self : (b : Bool) → agrees b b ≡ true
agrees_self true = refl
agrees_self false = refl

pub agrees_is : (a b : Bool) → agrees a b ≡ true → b ≡ a
agrees_is true b h = h
agrees_is false true h = sym h
agrees_is false false h = refl

agrees_back : (a b : Bool) → agrees a b ≡ true → agrees b a ≡ true
agrees_back true b h = rw h refl
agrees_back false true h = h
agrees_back false false h = refl

-- two that agree with one agree
agrees_both : (a b d : Bool) → agrees a d ≡ true → agrees b d ≡ true → agrees a b ≡ true
agrees_both a b d h g = rw (sym (agrees_is a d h) ∙ agrees_is b d g) (agrees_self b)

-- a pair that doesn't clash and asks one macro agrees
no_clash_agrees : (w v : Wish) → clash w v ≡ false → w.name ≡ v.name → agrees w.defined v.defined ≡ true
no_clash_agrees w v h e = by (agrees w.defined v.defined) (subst (λ n. ((v.name == n) && not (agrees w.defined v.defined)) ≡ false) e h)
  where
    by : (b : Bool) → ((v.name == v.name) && not b) ≡ false → b ≡ true
    by true g = refl
    by false g = absurd (grind (arith, nat_tests, common_steps, same_number v.name))

agrees_no_clash : (w v : Wish) → agrees w.defined v.defined ≡ true → clash w v ≡ false
agrees_no_clash w v h = rw h (by (v.name == w.name))
  where
    by : (b : Bool) → (b && false) ≡ false
    by true = refl
    by false = refl

other_name : (w v : Wish) → (v.name == w.name) ≡ false → clash w v ≡ false
other_name w v h = rw h refl

-- without clashes, wishes on one macro agree
pub one_way : (ws : List Wish) → clashes ws ≡ false → (w v : Wish) → Among w ws → Among v ws → w.name ≡ v.name → agrees w.defined v.defined ≡ true
one_way [] h w v m n e = absurd m
one_way (u ∷ us) h w v (inl a) (inl b) e = rw (a, b) (agrees_self u.defined)
one_way (u ∷ us) h w v (inl a) (inr n) e = let none = any_among (clash u) us v (or_left_false (clashes_with u us) (clashes us) h) n in
    subst (λ (x : Wish). agrees x.defined v.defined ≡ true) (sym a) (no_clash_agrees u v none (sym (ap (λ (x : Wish). x.name) a) ∙ e))
one_way (u ∷ us) h w v (inr m) (inl b) e = let none = any_among (clash u) us w (or_left_false (clashes_with u us) (clashes us) h) m in
    agrees_back v.defined w.defined (subst (λ (x : Wish). agrees x.defined w.defined ≡ true) (sym b) (no_clash_agrees u w none (sym (ap (λ (x : Wish). x.name) b) ∙ sym e)))
one_way (u ∷ us) h w v (inr m) (inr n) e = one_way us (or_right_false (clashes_with u us) (clashes us) h) w v m n e

-- wishes that are met don't clash
met_pair : (states : List ℕ → MacroState) (macros : List (List ℕ)) (w v : Wish) → is_met states macros w ≡ true → is_met states macros v ≡ true → clash w v ≡ false
met_pair states macros w v h g = by (v.name == w.name) refl
  where
    by : (b : Bool) → (v.name == w.name) ≡ b → clash w v ≡ false
    by true e = let same : v.name ≡ w.name = number_is v.name w.name e in
        agrees_no_clash w v (agrees_both w.defined v.defined (is_defined (states (macro_of macros w))) h (subst (λ n. agrees v.defined (is_defined (states (get_or macros n []))) ≡ true) same g))
    by false e = other_name w v e

pub met_no_clash : (states : List ℕ → MacroState) (macros : List (List ℕ)) (ws : List Wish) → are_met states macros ws ≡ true → clashes ws ≡ false
met_no_clash states macros [] h = refl
met_no_clash states macros (w ∷ ws) h = rw (
  none_from_among (clash w) ws (λ v m. met_pair states macros w v (and_left (is_met states macros w) (are_met states macros ws) h) (all_among (is_met states macros) ws v (and_right (is_met states macros w) (are_met states macros ws) h) m)),
  met_no_clash states macros ws (and_right (is_met states macros w) (are_met states macros ws) h),
) refl

pub clash_not_met : (states : List ℕ → MacroState) (macros : List (List ℕ)) (ws : List Wish) → clashes ws ≡ true → are_met states macros ws ≡ false
clash_not_met states macros ws h = by (are_met states macros ws) refl
  where
    by : (b : Bool) → are_met states macros ws ≡ b → b ≡ false
    by true e = let none = met_no_clash states macros ws e in absurd (cc)
    by false e = refl

-- ---- the macros that are wanted

abbrev pub wanted : List (List ℕ) → List Wish → List ℕ → Bool
wanted macros ws text = list_any (λ w. w.defined && text_eq (macro_of macros w) text) ws

pub wanted_is : (macros : List (List ℕ)) (ws : List Wish) → clashes ws ≡ false → AreNumbered macros ws → (w : Wish) → Among w ws → wanted macros ws (macro_of macros w) ≡ w.defined
wanted_is macros ws h numbered w m = by w.defined refl
  where
    by : (b : Bool) → w.defined ≡ b → wanted macros ws (macro_of macros w) ≡ b
    by true e = any_from_among (λ v. v.defined && text_eq (macro_of macros v) (macro_of macros w)) ws w m (and_both _ _ e (same_text (macro_of macros w)))
    by false e = none_from_among (λ v. v.defined && text_eq (macro_of macros v) (macro_of macros w)) ws (λ v n. other v n (text_eq (macro_of macros v) (macro_of macros w)) refl)
      where
        off : (b : Bool) → (b && false) ≡ false
        off true = refl
        off false = refl

        undefined : (d : Bool) → agrees d w.defined ≡ true → (d && true) ≡ false
        undefined true g = sym g ∙ e
        undefined false g = refl

        other : (v : Wish) → Among v ws → (c : Bool) → text_eq (macro_of macros v) (macro_of macros w) ≡ c → (v.defined && text_eq (macro_of macros v) (macro_of macros w)) ≡ false
        other v n true f = rw f (undefined v.defined (one_way ws h v w n m (numbered v w n m f)))
        other v n false f = rw f (off v.defined)
