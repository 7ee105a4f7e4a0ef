-- Macro calls: where a call is closed, and what it takes.
use Rattle.std.proofs.Common.{ℕ, zero, suc, ◌≡◌, ◌∙◌, refl, sym, ap, ◌+◌, ◌<◌, ◌≤◌, ◌==◌, ◌&&◌, arith, Bool, true, false, List, [], ◌∷◌, length, take, drop}
use Rattle.std.specs.Prelude.{IfSome, if◌then◌else◌, Option, Some, None}
use Rattle.std.specs.Option.{option_map}
use Rattle.std.proofs.lemmas.List.{drop-drop}
use Rattle.ut_text.specs.Bytes.{Bytes}
use Rattle.kconf_lines.specs.Cut.{onto}
use Rattle.kconf_cut.specs.Words.{Part, close_bracket, depth_after, closed, first_call}
use Rattle.kconf_cut.specs.Reading.{closed_len, split_by}

-- a call is closed at the place that is counted
pub closed_is : (depth : ℕ) (s : Bytes) → closed depth s ≡ split_by s (closed_len depth s)
closed_is depth [] = refl
closed_is depth (b ∷ s) = by (b == close_bracket && depth == 0) (closed_len (depth_after depth b) s) (closed_is (depth_after depth b) s)
  where
    by : (x : Bool) (o : Option ℕ) → closed (depth_after depth b) s ≡ split_by s o
        → (if x then Some ([], s) else option_map (onto b) (closed (depth_after depth b) s)) ≡ split_by (b ∷ s) (if x then Some 0 else option_map (λ n. suc n) o)
    by true o h = refl
    by false None h = ap (option_map (onto b)) h
    by false (Some n) h = ap (option_map (onto b)) h

-- what stands before and after the byte that is counted
pub closed_at : (s : Bytes) (n : ℕ) → closed_len 0 s ≡ Some n → closed 0 s ≡ Some (take n s, drop 1 (drop n s))
closed_at s n h =
    let e : n + 1 ≡ suc n = omega arith in
    let d : drop (suc n) s ≡ drop 1 (drop n s) = sym (drop-drop 1 n s ∙ ap (λ k. drop k s) e) in
    closed_is 0 s ∙ ap (split_by s) h ∙ ap (λ t. Some (take n s, t)) d

-- no byte closes it
pub not_closed : (s : Bytes) → closed_len 0 s ≡ None → closed 0 s ≡ None
not_closed s h = closed_is 0 s ∙ ap (split_by s) h

-- fewer than two bytes
pub short_drop : (s : Bytes) → length s < 2 → drop 2 s ≡ []
short_drop [] h = refl
short_drop (b ∷ []) h = refl
short_drop (b ∷ c ∷ s) h = let z : ⊥ = omega (arith, h) in absurd z

-- counting on
counted_on : (k n : ℕ) (left : Option ℕ) → n ≡ k + 1 → option_map (λ m. k + m) (option_map (λ m. suc m) left) ≡ option_map (λ m. n + m) left
counted_on k n None e = refl
counted_on k n (Some m) e = let f : k + suc m ≡ n + m = omega arith in ap (λ x. Some x) f

-- a byte inside a call is counted
pub inside_step : (depth count next b : ℕ) (s left : List ℕ) (whole : Option ℕ) → (b == close_bracket && depth == 0) ≡ false → left ≡ b ∷ s → next ≡ count + 1
    → option_map (λ n. count + n) (closed_len depth left) ≡ whole → option_map (λ n. next + n) (closed_len (depth_after depth b) s) ≡ whole
inside_step depth count next b s left whole stays is e w =
    sym (counted_on count next (closed_len (depth_after depth b) s) e) ∙ sym (ap (λ t. option_map (λ n. count + n) (closed_len depth t)) is ∙ rw stays refl) ∙ w

-- ---- what is left is shorter than n
abbrev pub Leaves : {X A : Type 0} → ℕ → Option (A × List X) → Type 0
Leaves n o = IfSome o (λ p. length p.1 < n)

pub if_known : {X A : Type 0} (n : ℕ) (b : Bool) (x y : Option (A × List X)) → (b ≡ true → Leaves n x) → Leaves n y → Leaves n (if b then x else y)
if_known n true x y h g = h refl
if_known n false x y h g = g

pub if_both : {X A : Type 0} (n : ℕ) (b : Bool) (x y : Option (A × List X)) → Leaves n x → Leaves n y → Leaves n (if b then x else y)
if_both n b x y h g = if_known n b x y (λ e. h) g

mapped : {X A B : Type 0} (n m : ℕ) (f : A → B) (o : Option (A × List X)) → n ≤ m → Leaves n o → Leaves m (option_map (λ p. (f p.0, p.1)) o)
mapped n m f None le h = tt
mapped n m f (Some p) le h = omega (arith, le, h)

pub drop_le : {X : Type 0} (n : ℕ) (xs : List X) → length (drop n xs) ≤ length xs
drop_le zero xs = omega arith
drop_le (suc n) [] = omega arith
drop_le (suc n) (x ∷ xs) = let h = drop_le n xs in omega (arith, h)

closed_shorter : (depth : ℕ) (s : Bytes) → Leaves (length s) (closed depth s)
closed_shorter depth [] = tt
closed_shorter depth (b ∷ s) = if_both (suc (length s)) (b == close_bracket && depth == 0) (Some ([], s)) (option_map (onto b) (closed (depth_after depth b) s))
    (omega arith) (mapped (length s) (suc (length s)) (λ c. b ∷ c) (closed (depth_after depth b) s) (omega arith) (closed_shorter (depth_after depth b) s))

-- a call takes something
pub call_shorter : (s : Bytes) → Leaves (length s) (first_call s)
call_shorter s = mapped (length (drop 2 s)) (length s) Part.Call (closed 0 (drop 2 s)) (drop_le 2 s) (closed_shorter 0 (drop 2 s))
