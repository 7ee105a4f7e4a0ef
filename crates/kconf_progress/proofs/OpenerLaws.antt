-- The enclosing lines as they are kept, and as the definition has them.
use Rattle.std.proofs.Common.{suc, ◌≡◌, ◌∙◌, refl, sym, ap, ◌-◌, arith, List, [], ◌∷◌, ◌++◌, length, take, drop, append_assoc}
use Rattle.std.specs.Prelude.{slice_get}
use Rattle.std.proofs.lemmas.List.{append-nil}
use Rattle.kconf_statements.specs.declared.lines.Opens.{Opens}
use Rattle.kconf_statements.specs.Enclosing as enclosing
use Rattle.kconf_statements.specs.Enclosing.{Opener, conditions, visible_conditions, ends_innermost}
use Rattle.kconf_progress.specs.declared.openers.OpenLine.{OpenLine}
use Rattle.kconf_progress.specs.Openers.{opener_of, from_innermost, inherited, inherited_visible, unclosed_after, unclosed}
use Rattle.kconf_progress.specs.Kept.{innermost, ends, without_last}

-- ---- conditions
conditions_last : (xs : List Opener) (o : Opener) → conditions (xs ++ o ∷ []) ≡ o.depends ++ conditions xs
conditions_last [] o = sym (append-nil o.depends)
conditions_last (x ∷ xs) o = ap (λ l. l ++ x.depends) (conditions_last xs o) ∙ append_assoc o.depends (conditions xs) x.depends

visible_last : (xs : List Opener) (o : Opener) → visible_conditions (xs ++ o ∷ []) ≡ o.visible ++ visible_conditions xs
visible_last [] o = sym (append-nil o.visible)
visible_last (x ∷ xs) o = ap (λ l. l ++ x.visible) (visible_last xs o) ∙ append_assoc o.visible (visible_conditions xs) x.visible

pub inherited_is : (os : List OpenLine) → inherited os ≡ conditions (from_innermost os)
inherited_is [] = refl
inherited_is (o ∷ os) = ap (λ l. o.depends ++ l) (inherited_is os) ∙ sym (conditions_last (from_innermost os) (opener_of o))

pub visible_is : (os : List OpenLine) → inherited_visible os ≡ visible_conditions (from_innermost os)
visible_is [] = refl
visible_is (o ∷ os) = ap (λ l. o.visible ++ l) (visible_is os) ∙ sym (visible_last (from_innermost os) (opener_of o))

-- ---- a line more, and a line less
pub pushed : (os : List OpenLine) (o : OpenLine) → from_innermost (os ++ o ∷ []) ≡ opener_of o ∷ from_innermost os
pushed [] o = refl
pushed (x ∷ os) o = ap (λ l. l ++ opener_of x ∷ []) (pushed os o)

drop_both : {X : Type 0} (zs : List X) (y x : X) → drop 1 ((zs ++ y ∷ []) ++ x ∷ []) ≡ drop 1 (zs ++ y ∷ []) ++ x ∷ []
drop_both [] y x = refl
drop_both (z ∷ zs) y x = refl

without_first : (x y : OpenLine) (ys : List OpenLine) → without_last (x ∷ y ∷ ys) ≡ x ∷ without_last (y ∷ ys)
without_first x y ys =
    let e : suc (suc (length ys)) - 1 ≡ suc (length ys) = omega arith in
    let f : suc (length ys) - 1 ≡ length ys = omega arith in
    ap (λ n. take n (x ∷ y ∷ ys)) e ∙ sym (ap (λ n. x ∷ take n (y ∷ ys)) f)

pub popped : (os : List OpenLine) → drop 1 (from_innermost os) ≡ from_innermost (without_last os)
popped [] = refl
popped (x ∷ []) = refl
popped (x ∷ y ∷ ys) =
    drop_both (from_innermost ys) (opener_of y) (opener_of x)
    ∙ ap (λ l. l ++ opener_of x ∷ []) (popped (y ∷ ys))
    ∙ sym (ap from_innermost (without_first x y ys))

-- ---- the innermost line
ends_before : (what : Opens) (zs : List Opener) (y x : Opener) → ends_innermost what ((zs ++ y ∷ []) ++ x ∷ []) ≡ ends_innermost what (zs ++ y ∷ [])
ends_before what [] y x = refl
ends_before what (z ∷ zs) y x = refl

pub ends_is : (what : Opens) (os : List OpenLine) → ends what (innermost os) ≡ ends_innermost what (from_innermost os)
ends_is what [] = refl
ends_is what (x ∷ []) = refl
ends_is what (x ∷ y ∷ ys) =
    let e : suc (suc (length ys)) - 1 ≡ suc (length ys) = omega arith in
    let f : suc (length ys) - 1 ≡ length ys = omega arith in
    ap (λ n. ends what (slice_get (x ∷ y ∷ ys) n)) e ∙ sym (ap (λ n. ends what (slice_get (y ∷ ys) n)) f)
    ∙ ends_is what (y ∷ ys) ∙ sym (ends_before what (from_innermost ys) (opener_of y) (opener_of x))

-- ---- open entries
unclosed_on : (os : List OpenLine) (base : List Opener) → unclosed_after (enclosing.unclosed base) os ≡ enclosing.unclosed (from_innermost os ++ base)
unclosed_on [] base = refl
unclosed_on (o ∷ os) base = unclosed_on os (opener_of o ∷ base) ∙ sym (ap enclosing.unclosed (append_assoc (from_innermost os) (opener_of o ∷ []) base))

pub unclosed_is : (os : List OpenLine) → unclosed os ≡ enclosing.unclosed (from_innermost os)
unclosed_is os = unclosed_on os [] ∙ ap enclosing.unclosed (append-nil (from_innermost os))
