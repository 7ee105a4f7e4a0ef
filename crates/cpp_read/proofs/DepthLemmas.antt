-- Laws of depth: the first part, and what stands after its sign.
use Rattle.std.proofs.Common.{◌≡◌, ℕ, ◌<◌, ◌≤◌, ◌∷◌, ◌++◌, ◌==◌, ◌&&◌, Bool, true, false, List, [], length, take, drop, suc, append_assoc, refl, ap, sym, ◌∙◌, arith}
use Rattle.std.specs.Prelude.{Result, Ok, Err}
use Rattle.std.proofs.lemmas.Bool.{false≢true, eqb-true}
use Rattle.cpp_read.specs.declared.token.Token.{Token}
use Rattle.cpp_read.specs.declared.depth.Joint.{Joint}
use Rattle.cpp_directives.specs.declared.condition.Cond.{Cond}
use Rattle.cpp_directives.specs.declared.bad.CppBad.{CppBad}
use Rattle.cpp_read.specs.Depth.{parts_at, parts, before_at, joins, deeper}
use Rattle.cpp_read.specs.Conditions.{Reader, each}
use Rattle.cpp_read.specs.ConditionSteps.{conds_after}
use Rattle.cpp_directives.specs.Refusals.{Fails}
use Rattle.cpp_directives.proofs.RefusalLaws.{fails_by}

both : (x y : Bool) → (x && y) ≡ true → y ≡ true
both true y h = h
both false y h = absurd (false≢true h)

-- where a sign stands outside parentheses, it ends the first part
pub part_step : (j : Joint) (d : ℕ) (ts : List Token) → before_at j d ts < length ts
    → parts_at j d ts ≡ take (before_at j d ts) ts ∷ parts_at j 0 (drop (suc (before_at j d ts)) ts)
part_step j d [] h = absurd (omega arith)
part_step j d (t ∷ ts) h = by (joins j t && d == 0) refl h (part_step j (deeper d t) ts)
  where
    by : (b : Bool) → (joins j t && d == 0) ≡ b → before_at j d (t ∷ ts) < length (t ∷ ts)
        → (before_at j (deeper d t) ts < length ts → parts_at j (deeper d t) ts ≡ take (before_at j (deeper d t) ts) ts ∷ parts_at j 0 (drop (suc (before_at j (deeper d t) ts)) ts))
        → parts_at j d (t ∷ ts) ≡ take (before_at j d (t ∷ ts)) (t ∷ ts) ∷ parts_at j 0 (drop (suc (before_at j d (t ∷ ts))) (t ∷ ts))
    by true e h r = let z : d ≡ 0 = eqb-true d 0 (both (joins j t) (d == 0) e) in rw (e, z) refl
    by false e h r =
        let k : before_at j (deeper d t) ts < length ts = omega (arith, rw e at h) in
        rw (e, r k) refl

pub part_last : (j : Joint) (d : ℕ) (ts : List Token) → before_at j d ts ≡ length ts → parts_at j d ts ≡ ts ∷ []
part_last j d [] h = refl
part_last j d (t ∷ ts) h = by (joins j t && d == 0) refl h (part_last j (deeper d t) ts)
  where
    by : (b : Bool) → (joins j t && d == 0) ≡ b → before_at j d (t ∷ ts) ≡ length (t ∷ ts)
        → (before_at j (deeper d t) ts ≡ length ts → parts_at j (deeper d t) ts ≡ ts ∷ []) → parts_at j d (t ∷ ts) ≡ (t ∷ ts) ∷ []
    by true e h r = absurd (omega (arith, rw e at h))
    by false e h r = let k : before_at j (deeper d t) ts ≡ length ts = omega (arith, rw e at h) in rw (e, r k) refl

pub one_more : (f : Reader) (front : List Cond) (p : List Token) (ps : List (List Token)) (c : Cond) → f p ≡ Ok c
    → conds_after front (each f (p ∷ ps)) ≡ conds_after (front ++ c ∷ []) (each f ps)
one_more f front p ps c h = rw h (joined (each f ps))
  where
    joined : (read : Result (List Cond) CppBad) → conds_after front (conds_after (c ∷ []) read) ≡ conds_after (front ++ c ∷ []) read
    joined (Ok cs) = ap (λ (xs : List Cond). Ok xs) (sym (append_assoc front (c ∷ []) cs))
    joined (Err e) = refl

record First (j : Joint) (d : ℕ) (ts : List Token) : Type 0 where
  more : List (List Token)
  is : parts_at j d ts ≡ take (before_at j d ts) ts ∷ more

first : (j : Joint) (d : ℕ) (ts : List Token) → First j d ts
first j d [] = record { more = []; is = refl }
first j d (t ∷ ts) = by (joins j t && d == 0) refl (first j (deeper d t) ts)
  where
    by : (b : Bool) → (joins j t && d == 0) ≡ b → First j (deeper d t) ts → First j d (t ∷ ts)
    by true e r = record { more = parts_at j d ts; is = rw e refl }
    by false e r = record { more = r.more; is = rw (e, r.is) refl }

pub fails_part : (e : CppBad) (f : Reader) (front : List Cond) (j : Joint) (ts : List Token) (whole : Result (List Cond) CppBad)
    → Fails e (f (take (before_at j 0 ts) ts)) → conds_after front (each f (parts j ts)) ≡ whole → Fails e whole
fails_part e f front j ts whole h w = fails_by e (f (take (before_at j 0 ts) ts)) whole (λ k is. sym w ∙ ap (λ (ps : List (List Token)). conds_after front (each f ps)) (first j 0 ts).is ∙ rw is refl) h

pub next_part : (f : Reader) (front new : List Cond) (j : Joint) (ts rest : List Token) (c : Cond) (whole : Result (List Cond) CppBad)
    → before_at j 0 ts < length ts → f (take (before_at j 0 ts) ts) ≡ Ok c → new ≡ front ++ c ∷ [] → rest ≡ drop (suc (before_at j 0 ts)) ts
    → conds_after front (each f (parts j ts)) ≡ whole → conds_after new (each f (parts j rest)) ≡ whole
next_part f front new j ts rest c whole h r e d w = rw (e, d)
    (sym (one_more f front (take (before_at j 0 ts) ts) (parts j (drop (suc (before_at j 0 ts)) ts)) c r)
    ∙ sym (ap (λ (ps : List (List Token)). conds_after front (each f ps)) (part_step j 0 ts h)) ∙ w)

pub last_part : (f : Reader) (front new : List Cond) (j : Joint) (ts : List Token) (c : Cond) (whole : Result (List Cond) CppBad)
    → before_at j 0 ts ≡ length ts → f ts ≡ Ok c → new ≡ front ++ c ∷ [] → conds_after front (each f (parts j ts)) ≡ whole → whole ≡ Ok new
last_part f front new j ts c whole h r e w = sym w ∙ ap (λ (ps : List (List Token)). conds_after front (each f ps)) (part_last j 0 ts h) ∙ rw (r, e) refl

pub before_within : (j : Joint) (d : ℕ) (ts : List Token) → before_at j d ts ≤ length ts
before_within j d [] = omega arith
before_within j d (t ∷ ts) = by (joins j t && d == 0) refl (before_within j (deeper d t) ts)
  where
    by : (b : Bool) → (joins j t && d == 0) ≡ b → before_at j (deeper d t) ts ≤ length ts → before_at j d (t ∷ ts) ≤ length (t ∷ ts)
    by true e r = rw e (omega arith)
    by false e r = rw e (omega arith)
