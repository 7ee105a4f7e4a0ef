-- From directives to steps.
use Rattle.std.proofs.Common.{◌≡◌, ℕ, ◌≤◌, ◌<◌, ◌+◌, zero, suc, Bool, true, false, cond, refl, ap, sym, subst, ◌∙◌, arith, rules, List, [], ◌∷◌, ◌++◌, length, get_or, Option, None, Some, inl, inr, ⊎_elim}
use Rattle.std.proofs.Common.{length-append}
use Rattle.std.proofs.Math.ListN.{get_or-append}
use Rattle.std.proofs.Math.Seq.{get_or-append_seam}
use Rattle.std.proofs.lemmas.Bool.{cases_lt}
use Rattle.std.proofs.lemmas.Cmp.{nat_list_eq_equiv}
use Rattle.std.specs.List.{list_any}
use Rattle.ut_text.specs.Text.{text_eq}
use Rattle.cpp_directives.specs.declared.condition.Cond.{Cond, out-Cond}
use Rattle.cpp_directives.specs.declared.condition.Cond.TheOpen.{Cond-F}
use Rattle.cpp_directives.specs.declared.condition.Cond.TheVariants.{Defined, Neg}
use Rattle.cpp_directives.specs.declared.condition.Cond.TheViews.{the_lemmas}
use Rattle.cpp_directives.specs.declared.directive.Directive.{Directive}
use Rattle.cpp_directives.specs.declared.directive.What.TheVariants.{If, Endif}
use Rattle.undertaker.specs.declared.wishes.Wish.{Wish}
use Rattle.undertaker.specs.declared.steps.Step.{Step}
use Rattle.undertaker.specs.declared.steps.Step.TheVariants.{Opens, Closes}
use Rattle.undertaker.specs.Plain.{cond_of, IsPlain, ArePlain, negated_at, asked_at, asked_of, asked_in, with_asked}
use Rattle.undertaker.specs.Wishes.{macro_of}
use Rattle.undertaker.specs.Meanings.{meaning_under}
use Rattle.undertaker.specs.Steps.{StandsFor, StandFor}
use Rattle.undertaker.specs.StepsOf.{IsMeant, AreMeant, AreDistinct}
use Rattle.undertaker.proofs.Bools.{or_left_false, or_right_false}

out_defined : (n : List ℕ) → out-Cond (Defined n) ≡ Cond-F.Defined n
out_defined n = search (rules, the_lemmas)

out_neg : (c : Cond) → out-Cond (Neg c) ≡ Cond-F.Neg c
out_neg c = search (rules, the_lemmas)

asked_cond : (name : List ℕ) (defined : Bool) → asked_of (cond_of name defined) ≡ Some (name, defined)
asked_cond name true = ap asked_at (out_defined name)
asked_cond name false = ap asked_at (out_neg (Defined name)) ∙ ap negated_at (out_defined name)

in_some : (x y : List ℕ × Bool) → ◌≡◌ {A = Option (List ℕ × Bool)} (Some x) (Some y) → x ≡ y
in_some x y h = cc

none_some : (y : List ℕ × Bool) → ◌≡◌ {A = Option (List ℕ × Bool)} None (Some y) → ⊥
none_some y h = absurd (cc)

pub plain_step : (d : Directive) → IsPlain d → (name : List ℕ) (defined : Bool) → asked_in d.what ≡ Some (name, defined) → d.what ≡ If (cond_of name defined)
plain_step d (inl e) name defined h = absurd (none_some (name, defined) (ap asked_in (sym e) ∙ h))
plain_step d (inr p) name defined h = let same = in_some (p.0, p.1) (name, defined) (sym (asked_cond p.0 p.1) ∙ (ap asked_in (sym p.2) ∙ h)) in
    p.2 ∙ ap (λ (x : List ℕ × Bool). If (cond_of x.0 x.1)) same

pub plain_end : (d : Directive) → IsPlain d → asked_in d.what ≡ None → d.what ≡ Endif
plain_end d (inl e) h = e
plain_end d (inr p) h = absurd (none_some (p.0, p.1) (sym h ∙ (ap asked_in p.2 ∙ asked_cond p.0 p.1)))

-- ---- more macros

-- the macros are these and others after them
pub more_macros : (macros : List (List ℕ)) (o : Option (List ℕ × Bool)) → (more : List (List ℕ)) × (with_asked macros o ≡ macros ++ more)
more_macros macros None = ([], sym (whole macros))
  where
    whole : (xs : List (List ℕ)) → xs ++ [] ≡ xs
    whole [] = refl
    whole (x ∷ xs) = ap (λ ys. x ∷ ys) (whole xs)
more_macros macros (Some asked) = by (list_any (text_eq asked.0) macros)
  where
    whole : (xs : List (List ℕ)) → xs ++ [] ≡ xs
    whole [] = refl
    whole (x ∷ xs) = ap (λ ys. x ∷ ys) (whole xs)

    by : (b : Bool) → (more : List (List ℕ)) × (cond b macros (macros ++ asked.0 ∷ []) ≡ macros ++ more)
    by true = ([], sym (whole macros))
    by false = (asked.0 ∷ [], refl)

macro_kept : (macros more : List (List ℕ)) (w : Wish) → w.name < length macros → macro_of (macros ++ more) w ≡ macro_of macros w
macro_kept macros more w lt = get_or-append macros more [] w.name lt

longer : (macros more : List (List ℕ)) (n : ℕ) → n < length macros → n < length (macros ++ more)
longer macros more n lt = omega (arith, length-append macros more)

stands_more : (macros more : List (List ℕ)) (s : Step) (d : Directive) → StandsFor macros s d → StandsFor (macros ++ more) s d
stands_more macros more (Opens w) d h = (longer macros more w.name h.0, h.1 ∙ ap (λ (n : List ℕ). If (cond_of n w.defined)) (sym (macro_kept macros more w h.0)))
stands_more macros more Closes d h = h

stand_more : (macros more : List (List ℕ)) (ss : List Step) (ds : List Directive) → StandFor macros ss ds → StandFor (macros ++ more) ss ds
stand_more macros more [] [] h = tt
stand_more macros more [] (d ∷ ds) h = absurd h
stand_more macros more (s ∷ ss) [] h = absurd h
stand_more macros more (s ∷ ss) (d ∷ ds) h = (stands_more macros more s d h.0, stand_more macros more ss ds h.1)

stand_push : (macros : List (List ℕ)) (ss : List Step) (ds : List Directive) (s : Step) (d : Directive) → StandFor macros ss ds → StandsFor macros s d → StandFor macros (ss ++ s ∷ []) (ds ++ d ∷ [])
stand_push macros [] [] s d h g = (g, tt)
stand_push macros [] (e ∷ ds) s d h g = absurd h
stand_push macros (r ∷ ss) [] s d h g = absurd h
stand_push macros (r ∷ ss) (e ∷ ds) s d h g = (h.0, stand_push macros ss ds s d h.1 g)

meant_more : (names macros more : List (List ℕ)) (ss : List Step) (ds : List Directive) → StandFor macros ss ds → AreMeant names macros ss → AreMeant names (macros ++ more) ss
meant_more names macros more [] ds h m = tt
meant_more names macros more (s ∷ ss) [] h m = absurd h
meant_more names macros more (Opens w ∷ ss) (d ∷ ds) h m = (m.0 ∙ ap (meaning_under names) (sym (macro_kept macros more w h.0.0)), meant_more names macros more ss ds h.1 m.1)
meant_more names macros more (Closes ∷ ss) (d ∷ ds) h m = (tt, meant_more names macros more ss ds h.1 m.1)

meant_push : (names macros : List (List ℕ)) (ss : List Step) (s : Step) → AreMeant names macros ss → IsMeant names macros s → AreMeant names macros (ss ++ s ∷ [])
meant_push names macros [] s m g = (g, tt)
meant_push names macros (r ∷ ss) s m g = (m.0, meant_push names macros ss s m.1 g)

-- ---- each macro stands once

absent_at : (names : List (List ℕ)) (name : List ℕ) → list_any (text_eq name) names ≡ false → (i : ℕ) → i < length names → text_eq name (get_or names i []) ≡ false
absent_at [] name h i lt = absurd (omega arith)
absent_at (n ∷ names) name h zero lt = or_left_false (text_eq name n) (list_any (text_eq name) names) h
absent_at (n ∷ names) name h (suc i) lt = absent_at names name (or_right_false (text_eq name n) (list_any (text_eq name) names) h) i (omega arith)

distinct_push : (names : List (List ℕ)) (name : List ℕ) → AreDistinct names → list_any (text_eq name) names ≡ false → AreDistinct (names ++ name ∷ [])
distinct_push names name d h i j li lj e = ⊎_elim (λ a. ⊎_elim (both a) (first a) (cases_lt j (length names))) (λ a. ⊎_elim (second a) (λ b. omega (arith, a, b, size, li, lj)) (cases_lt j (length names))) (cases_lt i (length names))
  where
    size : length (names ++ name ∷ []) ≡ length names + 1
    size = omega (arith, length-append names (name ∷ []))

    at_last : (k : ℕ) → length names ≤ k → k < length (names ++ name ∷ []) → get_or (names ++ name ∷ []) k [] ≡ name
    at_last k ge lt = let same : length names ≡ k = omega (arith, ge, lt, size) in subst (λ n. get_or (names ++ name ∷ []) n [] ≡ name) same (get_or-append_seam names name [] [])

    both : i < length names → j < length names → i ≡ j
    both a b = d i j a b (ap (λ x. text_eq x (get_or names j [])) (sym (get_or-append names (name ∷ []) [] i a)) ∙ (ap (λ x. text_eq (get_or (names ++ name ∷ []) i []) x) (sym (get_or-append names (name ∷ []) [] j b)) ∙ e))

    off : (b : Bool) → b ≡ false → b ≡ true → i ≡ j
    off b f g = absurd (cc)

    first : i < length names → length names ≤ j → i ≡ j
    first a ge = off (text_eq (get_or names i []) name) (nat_list_eq_equiv.symm (get_or names i []) name ∙ absent_at names name h i a)
        (ap (λ x. text_eq x name) (sym (get_or-append names (name ∷ []) [] i a)) ∙ (ap (λ x. text_eq (get_or (names ++ name ∷ []) i []) x) (sym (at_last j ge lj)) ∙ e))

    second : length names ≤ i → j < length names → i ≡ j
    second ge b = off (text_eq name (get_or names j [])) (absent_at names name h j b)
        (ap (λ x. text_eq name x) (sym (get_or-append names (name ∷ []) [] j b)) ∙ (ap (λ x. text_eq x (get_or (names ++ name ∷ []) j [])) (sym (at_last i ge li)) ∙ e))

distinct_more : (macros : List (List ℕ)) (o : Option (List ℕ × Bool)) → AreDistinct macros → AreDistinct (with_asked macros o)
distinct_more macros None d = d
distinct_more macros (Some asked) d = by (list_any (text_eq asked.0) macros) refl
  where
    by : (b : Bool) → list_any (text_eq asked.0) macros ≡ b → AreDistinct (cond b macros (macros ++ asked.0 ∷ []))
    by true h = d
    by false h = distinct_push macros asked.0 d h

-- ---- what the loop over the directives keeps

pub record Numbered (names : List (List ℕ)) (macros : List (List ℕ)) (ss : List Step) (ds : List Directive) : Type 0 where
  pub distinct : AreDistinct macros
  pub stand : StandFor macros ss ds
  pub meant : AreMeant names macros ss

pub numbered_nothing : (names : List (List ℕ)) → Numbered names [] [] []
numbered_nothing names = record { distinct = λ i j li lj e. absurd (none i li); stand = tt; meant = tt }
  where
    none : (i : ℕ) → i < 0 → ⊥
    none i lt = omega arith

pub numbered_step : (names macros : List (List ℕ)) (ss : List Step) (ds : List Directive) (s : Step) (d : Directive) (next : List (List ℕ)) → Numbered names macros ss ds
    → next ≡ with_asked macros (asked_in d.what) → StandsFor next s d → IsMeant names next s → Numbered names next (ss ++ s ∷ []) (ds ++ d ∷ [])
numbered_step names macros ss ds s d next n e g m = let more = more_macros macros (asked_in d.what) in record {
  distinct = subst AreDistinct (sym e) (distinct_more macros (asked_in d.what) n.distinct);
  stand = stand_push next ss ds s d (subst (λ (ms : List (List ℕ)). StandFor ms ss ds) (sym (e ∙ more.1)) (stand_more macros more.0 ss ds n.stand)) g;
  meant = meant_push names next ss s (subst (λ (ms : List (List ℕ)). AreMeant names ms ss) (sym (e ∙ more.1)) (meant_more names macros more.0 ss ds n.stand n.meant)) m;
}

pub first_plain : (d : Directive) (ds : List Directive) → ArePlain (d ∷ ds) → IsPlain d
first_plain d ds p = p.0
