-- A step of what is kept agrees with the line that it stands for.
use Rattle.std.proofs.Common.{ℕ, suc, ◌≡◌, ◌∙◌, refl, sym, ap, subst, ◌<◌, ◌≤◌, arith, Bool, true, false, List, [], ◌∷◌, Some, None, Result, Ok, Err, inl, inr}
use Rattle.std.specs.Prelude.{◌⊎◌, nat_le, nat_lt, if◌then◌else◌}
use Rattle.std.specs.Option.{is_some}
use Rattle.std.proofs.lemmas.Bool.{le-leb, lt-leb}
use Rattle.std.proofs.lemmas.Bool.Decides.{leb_tells}
use Rattle.kconf_words.specs.declared.line_bad.LineBad.{LineBad}
use Rattle.kconf_words.specs.declared.line_bad.LineBad.TheVariants.{Syntax, Macro, Depth, Oom}
use Rattle.kconf_words.specs.Faults.{Fails}
use Rattle.kconf_statements.specs.EntryLines.{Before}
use Rattle.kconf_statements.specs.Enclosing.{enclosing, in_choice}
use Rattle.kconf_statements.specs.Standing.{first_refusal, unless}
use Rattle.kconf_progress.specs.Kept.{Kept, Leads}
use Rattle.kconf_progress.specs.Progress.{Holds, Stands, Steps}

-- both come to alike, or are refused alike
abbrev pub Agree : Result Kept LineBad → Result Before LineBad → Type 0
Agree (Ok k) (Ok before) = Stands before k
Agree (Ok k) (Err e) = ⊥
Agree (Err d) (Ok before) = ⊥
Agree (Err d) (Err e) = d ≡ e

-- a refusal in place of a value
abbrev failed : (A : Type 0) → LineBad → Result A LineBad
failed A e = Err e

-- so a step leads to what the lines come to, or has their fault
pub agreed : {A : Type 0} (x : Result Kept LineBad) (y : Result Before LineBad) (r : Result A LineBad) (new : Kept) → Agree x y → Leads r new x → Steps y r new
agreed (Ok k) (Ok before) (Ok v) new h g = (before, refl, (let same : k ≡ new = cc in subst (Stands before) same h))
agreed (Ok k) (Ok before) (Err (Syntax f)) new h g = cc
agreed (Ok k) (Ok before) (Err Macro) new h g = cc
agreed (Ok k) (Ok before) (Err (Depth w)) new h g = cc
agreed (Ok k) (Ok before) (Err Oom) new h g = tt
agreed (Ok k) (Err e) r new h g = absurd h
agreed (Err d) (Ok before) r new h g = absurd h
agreed (Err d) (Err e) (Ok v) new h g = cc
agreed (Err d) (Err e) (Err f) new h g = subst (λ k. Fails f (failed Before k)) h (turned f g)
  where
    turned : (f : LineBad) → Fails f (failed Kept d) → Fails f (failed Before d)
    turned (Syntax k) g = let same : d ≡ Syntax k = cc in ap (failed Before) same
    turned Macro g = let same : d ≡ Macro = cc in ap (failed Before) same
    turned (Depth w) g = let same : d ≡ Depth w = cc in ap (failed Before) same
    turned Oom g = tt

-- ---- a refusal that comes first
refused_first : (b : Bool) (e : LineBad) (x : Result Kept LineBad) (rs : List (Bool × LineBad)) (before : Before) → (b ≡ false → Agree x (unless (first_refusal rs) before))
    → Agree (if b then Err e else x) (unless (first_refusal ((b, e) ∷ rs)) before)
refused_first true e x rs before h = refl
refused_first false e x rs before h = h refl

-- the same where the first test is put otherwise
pub refused_by : (a b : Bool) (e : LineBad) (x : Result Kept LineBad) (rs : List (Bool × LineBad)) (before : Before) → a ≡ b → (b ≡ false → Agree x (unless (first_refusal rs) before))
    → Agree (if a then Err e else x) (unless (first_refusal ((b, e) ∷ rs)) before)
refused_by a b e x rs before same h =
    subst (λ c. Agree (if c then Err e else x) (unless (first_refusal ((b, e) ∷ rs)) before)) (sym same) (refused_first b e x rs before h)

-- the last test, on how many are open
pub refused_full : (k m : ℕ) (e : LineBad) (x : Result Kept LineBad) (before : Before) → k ≡ m → Agree x (Ok before)
    → Agree (if nat_lt k 64 then x else Err e) (unless (first_refusal ((nat_le 64 m, e) ∷ [])) before)
refused_full k m e x before same h = by (leb_tells 64 m)
  where
    by : ((nat_le 64 m ≡ true) × (64 ≤ m)) ⊎ ((nat_le 64 m ≡ false) × (m < 64))
        → Agree (if nat_lt k 64 then x else Err e) (unless (first_refusal ((nat_le 64 m, e) ∷ [])) before)
    by (inl p) = let many : 64 < suc k = omega (arith, p.1, same) in rw (p.0, lt-leb (suc k) 64 many) refl
    by (inr p) = let few : suc k ≤ 64 = omega (arith, p.1, same) in rw (p.0, le-leb (suc k) 64 few) h

-- ---- whether a choice encloses what follows
encloses : (b : Bool) (n : ℕ) → is_some (if b then Some n else None) ≡ b
encloses true n = refl
encloses false n = refl

pub in_choice_is : (before : Before) (p : Kept) → Holds before p → is_some p.choice ≡ in_choice (enclosing before)
in_choice_is before p h = ap is_some h.choice ∙ encloses (in_choice (enclosing before)) _
