-- What stands before the sign of an assignment, and the last `-` of a variable.
use Rattle.std.proofs.Common.{◌≡◌, ◌∙◌, ◌+◌, ℕ, Bool, true, false, if◌then◌else◌, refl, sym, ap, List, [], ◌∷◌, ◌++◌, length, take, get_or, ◌<◌, ◌≤◌, arith, nat_lt}
use Rattle.std.proofs.lemmas.Bool.{lt-ltb}
use Rattle.std.proofs.lemmas.List.{length-take, take_more}
use Rattle.kbuild_text.specs.Statements.{leads_equals, without_lead}
use Rattle.kbuild_text.specs.Variables.{dash_end, dash_len, is_dash}
use Rattle.kbuild_text.specs.declared.marks.Mark.{Mark}

pub without_lead-push : (front : List Mark) (m : Mark) → without_lead (front ++ m ∷ []) ≡ (if leads_equals m then front else front ++ m ∷ [])
without_lead-push [] m = refl
without_lead-push (x ∷ []) m = by (leads_equals m)
  where
    by : (t : Bool) → x ∷ (if t then [] else m ∷ []) ≡ (if t then x ∷ [] else x ∷ m ∷ [])
    by true = refl
    by false = refl
without_lead-push (x ∷ y ∷ s) m = ap (λ l. x ∷ l) (without_lead-push (y ∷ s) m) ∙ by (leads_equals m)
  where
    by : (t : Bool) → x ∷ (if t then y ∷ s else (y ∷ s) ++ m ∷ []) ≡ (if t then x ∷ y ∷ s else (x ∷ y ∷ s) ++ m ∷ [])
    by true = refl
    by false = refl

-- a line that ends with this mark
pub without_lead_at : (front before : List Mark) (m : Mark) → front ≡ before ++ m ∷ [] → without_lead front ≡ (if leads_equals m then before else front)
without_lead_at front before m is = ap without_lead is ∙ (without_lead-push before m ∙ ap (λ l. if leads_equals m then before else l) (sym is))

pub without_lead_yes : (front before : List Mark) (m : Mark) (b : Bool) → front ≡ before ++ m ∷ [] → b ≡ leads_equals m → b ≡ true → before ≡ without_lead front
without_lead_yes front before m b is e t = sym (without_lead_at front before m is ∙ ap (λ x. if x then before else front) (sym e ∙ t))

pub without_lead_no : (front before : List Mark) (m : Mark) (b : Bool) → front ≡ before ++ m ∷ [] → b ≡ leads_equals m → b ≡ false → front ≡ without_lead front
without_lead_no front before m b is e t = sym (without_lead_at front before m is ∙ ap (λ x. if x then before else front) (sym e ∙ t))

-- nothing stands before the sign of an empty line
pub without_lead_none : (front : List Mark) → length front ≡ 0 → without_lead front ≡ front
without_lead_none [] e = refl
without_lead_none (m ∷ front) e = absurd (omega (arith, e))

-- the last `-` after one more mark
pub dash_len_push : (ms : List Mark) (m : Mark) → dash_len (ms ++ m ∷ []) ≡ dash_end (dash_len ms) (length ms) m
dash_len_push [] m = by (is_dash m)
  where
    by : (t : Bool) → (if nat_lt 0 0 then 0 + 1 else if t then 1 else 0) ≡ (if t then 0 + 1 else 0)
    by true = refl
    by false = refl
dash_len_push (x ∷ ms) m = ap (λ n. if nat_lt 0 n then n + 1 else if is_dash x then 1 else 0) (dash_len_push ms m) ∙ by (is_dash m) (nat_lt 0 (dash_len ms)) refl
  where
    by : (t u : Bool) → nat_lt 0 (dash_len ms) ≡ u
        → (if nat_lt 0 (if t then length ms + 1 else dash_len ms) then (if t then length ms + 1 else dash_len ms) + 1 else if is_dash x then 1 else 0)
        ≡ (if t then length (x ∷ ms) + 1 else if u then dash_len ms + 1 else if is_dash x then 1 else 0)
    by true u e = let pos : nat_lt 0 (length ms + 1) ≡ true = lt-ltb 0 (length ms + 1) (omega arith) in ap (λ b. if b then length ms + 1 + 1 else if is_dash x then 1 else 0) pos ∙ omega arith
    by false u e = ap (λ b. if b then dash_len ms + 1 else if is_dash x then 1 else 0) e

-- so far, by one more mark
pub dash_more : (ms : List Mark) (i : ℕ) (d : Mark) (end new : ℕ) → i < length ms → end ≡ dash_len (take i ms) → new ≡ dash_end end i (get_or ms i d) → new ≡ dash_len (take (i + 1) ms)
dash_more ms i d end new lt is h =
    let n : length (take i ms) ≡ i = omega (arith, length-take i ms, lt) in
    h ∙ (ap (λ e. dash_end e i (get_or ms i d)) is ∙ (ap (λ k. dash_end (dash_len (take i ms)) k (get_or ms i d)) (sym n) ∙ (sym (dash_len_push (take i ms) (get_or ms i d))
    ∙ ap dash_len (sym (take_more ms i d lt)))))

pub dash_within : (end i : ℕ) (is : Bool) (new : ℕ) → end ≤ i → new ≡ (if is then i + 1 else end) → new ≤ i + 1
dash_within end i true new le h = omega (arith, h)
dash_within end i false new le h = omega (arith, h, le)
