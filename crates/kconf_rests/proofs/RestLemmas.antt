-- What the parts of a line come to: faults that end it, and the limit on signs after all others.
use Rattle.std.proofs.Common.{ℕ, ◌≡◌, ◌∙◌, refl, sym, ap, subst, ◌<◌, ◌≤◌, arith, max, Bool, true, false, Option, None, Some, Result, Ok, Err, List, [], ◌∷◌, length, drop}
use Rattle.std.specs.Prelude.{nat_le, ◌⊎◌, if◌then◌else◌}
use Rattle.std.proofs.Common.{inl, inr}
use Rattle.std.specs.Option.{option_map}
use Rattle.std.proofs.lemmas.Bool.{le-leb, lt-leb, leb-true, cond-true, cond-false}
use Rattle.std.proofs.lemmas.Bool.Decides.{leb_tells}
use Rattle.ut_text.specs.Bytes.{Bytes}
use Rattle.ut_text.specs.Results.{◌>>=◌}
use Rattle.ut_base.specs.declared.limits.Limit.TheVariants.{Brackets}
use Rattle.kconf_entries.specs.declared.expr.Expr.{Expr}
use Rattle.kconf_entries.specs.declared.expr.Expr.TheVariants.{Const}
use Rattle.ut_logic.specs.declared.trit.Trit.TheVariants.{Y}
use Rattle.kconf_entries.specs.declared.entries.DefaultOf.{DefaultOf}
use Rattle.kconf_words.specs.declared.line_words.LineWord.{LineWord}
use Rattle.kconf_words.specs.declared.line_bad.SyntaxKind.TheVariants as fault
use Rattle.kconf_words.specs.declared.line_bad.LineBad.{LineBad}
use Rattle.kconf_words.specs.declared.line_bad.LineBad.TheVariants.{Syntax, Macro, Depth, Oom}
use Rattle.kconf_words.specs.Faults.{Fails}
use Rattle.kconf_exprs.specs.Grammar.{Parsed, expression_at}
use Rattle.kconf_rests.specs.Rests.{most_signs, wanted, with_nothing_after, expression, expression_alone, condition, within_limit, an_expression, a_condition, a_value, value_text}
use Rattle.kconf_rests.specs.declared.expressions.ExprAt.{ExprAt}
use Rattle.kconf_rests.specs.Reading.{kept, IsKept, IsKeptAt, limited, limited_default}

-- a fault of what is read first is the fault of all
pub fails_first : {A B : Type 0} (e : LineBad) (x : Result A LineBad) (f : A → Result B LineBad) → Fails e x → Fails e (x >>= f)
fails_first (Syntax kind) x f h = ap (λ r. r >>= f) h
fails_first Macro x f h = ap (λ r. r >>= f) h
fails_first (Depth what) x f h = ap (λ r. r >>= f) h
fails_first Oom x f h = tt

-- a fault of what is read next is the fault of all
pub fails_next : {A B : Type 0} (e : LineBad) (x : Result A LineBad) (f : A → Result B LineBad) (a : A) → x ≡ Ok a → Fails e (f a) → Fails e (x >>= f)
fails_next e x f a is h = subst (Fails e) (sym (ap (λ r. r >>= f) is)) h

-- an expression with few enough signs is kept, and one with more is not
pub is_kept : (p : Parsed) → p.signs ≤ most_signs → kept p ≡ Some p.expr
is_kept p h = cond-true _ _ _ (le-leb p.signs most_signs h)

pub is_not_kept : (p : Parsed) → most_signs < p.signs → kept p ≡ None
is_not_kept p h = cond-false _ _ _ (lt-leb p.signs most_signs h)

-- what is kept is within the limit
limited_is : (p : Parsed) → limited (kept p) ≡ within_limit p.signs p.expr
limited_is p = by (nat_le p.signs most_signs)
  where
    by : (b : Bool) → limited (if b then Some p.expr else None) ≡ (if b then Ok p.expr else Err (Depth Brackets))
    by true = refl
    by false = refl

module _ (read : Result Parsed LineBad) (e : Option Expr) (h : IsKept read e) where
  -- one expression, or a condition, within the limit
  pub within_is : limited e ≡ (read >>= λ p. within_limit p.signs p.expr)
  within_is = ap limited h.expr ∙ limited_is h.parsed ∙ sym (ap (λ (r : Result Parsed LineBad). r >>= λ p. within_limit p.signs p.expr) h.is)

pub expression_is : (ws : List LineWord) (e : Option Expr) → IsKept (expression_alone ws) e → limited e ≡ an_expression ws
expression_is ws e h = within_is (expression_alone ws) e h

pub condition_is : (ws : List LineWord) (e : Option Expr) → IsKept (condition ws) e → limited e ≡ a_condition ws
condition_is ws e h = within_is (condition ws) e h

-- ---- values
both_within : (m n : ℕ) (x : DefaultOf)
    → (if nat_le m most_signs then (if nat_le n most_signs then Ok x else Err (Depth Brackets)) else Err (Depth Brackets)) ≡ within_limit (max m n) x
both_within m n x = by (leb_tells m most_signs) (leb_tells n most_signs)
  where
    by : ((nat_le m most_signs ≡ true) × (m ≤ most_signs)) ⊎ ((nat_le m most_signs ≡ false) × (most_signs < m))
        → ((nat_le n most_signs ≡ true) × (n ≤ most_signs)) ⊎ ((nat_le n most_signs ≡ false) × (most_signs < n))
        → (if nat_le m most_signs then (if nat_le n most_signs then Ok x else Err (Depth Brackets)) else Err (Depth Brackets)) ≡ within_limit (max m n) x
    by (inl p) (inl q) = rw (p.0, q.0, le-leb (max m n) most_signs (omega (arith, p.1, q.1))) refl
    by (inl p) (inr q) = rw (p.0, q.0, lt-leb (max m n) most_signs (omega (arith, p.1, q.1))) refl
    by (inr p) q = rw (p.0, lt-leb (max m n) most_signs (omega (arith, p.1))) refl

-- a default of which both are kept is within the limit
default_is : (v c : Parsed) (text : Option Bytes) → limited_default (kept v) (kept c) text ≡ within_limit (max v.signs c.signs) (record { value = v.expr; cond = c.expr; text = text })
default_is v c text = by (nat_le v.signs most_signs) (nat_le c.signs most_signs) ∙ both_within v.signs c.signs (record { value = v.expr; cond = c.expr; text = text })
  where
    by : (x y : Bool) → limited_default (if x then Some v.expr else None) (if y then Some c.expr else None) text
        ≡ (if x then (if y then Ok (record { value = v.expr; cond = c.expr; text = text }) else Err (Depth Brackets)) else Err (Depth Brackets))
    by true true = refl
    by true false = refl
    by false y = refl

module _ (ws rest : List LineWord) (v : Parsed) (is : expression ws ≡ Ok v) (same : rest ≡ v.rest) where
  -- a value, and the condition after it
  pub value_next : a_value ws ≡ (condition rest >>= λ c. within_limit (max v.signs c.signs) (record { value = v.expr; cond = c.expr; text = value_text ws rest }))
  value_next = ap (λ (r : Result Parsed LineBad). r >>= λ w. condition w.rest >>= λ c.
      within_limit (max w.signs c.signs) (record { value = w.expr; cond = c.expr; text = value_text ws w.rest })) is
      ∙ ap (λ (t : List LineWord). condition t >>= λ c. within_limit (max v.signs c.signs) (record { value = v.expr; cond = c.expr; text = value_text ws t })) (sym same)

  pub value_is : (e : Option Expr) (cond : Option Expr) (text : Option Bytes) → e ≡ kept v → IsKept (condition rest) cond → text ≡ value_text ws rest
      → limited_default e cond text ≡ a_value ws
  value_is e cond text k h t =
      ap (λ (x : Option Expr). limited_default x cond text) k ∙ ap (λ (x : Option Expr). limited_default (kept v) x text) h.expr
      ∙ ap (limited_default (kept v) (kept h.parsed)) t
      ∙ default_is v h.parsed (value_text ws rest)
      ∙ sym (value_next ∙ ap (λ (r : Result Parsed LineBad). r >>= λ c. within_limit (max v.signs c.signs) (record { value = v.expr; cond = c.expr; text = value_text ws rest })) h.is)

-- ---- expressions
pub deep : (ws : List LineWord) (n : ℕ) → ((p : Parsed) → expression_at ws ≡ Some p → most_signs < p.signs)
    → (o : Option Parsed) → expression_at ws ≡ o → Some (drop n ws) ≡ option_map (λ p. p.rest) o
    → (p : Parsed) × (expression ws ≡ Ok p) × (None ≡ kept p) × (drop n ws ≡ p.rest)
deep ws n h None is e = cc
deep ws n h (Some p) is e = (p, ap (wanted fault.Expression) is, sym (is_not_kept p (h p is)), (let same : drop n ws ≡ p.rest = cc in same))

pub absent : (ws : List LineWord) (o : Option Parsed) → expression_at ws ≡ o → None ≡ option_map (λ p. p.rest) o → expression ws ≡ Err (Syntax fault.Expression)
absent ws None is e = ap (wanted fault.Expression) is
absent ws (Some p) is e = cc

-- ---- nothing is left
nothing_left : (ws : List LineWord) → length ws < 1 → ws ≡ []
nothing_left [] h = refl
nothing_left (w ∷ ws) h = let z : ⊥ = omega (arith, h) in absurd z

-- one expression and nothing after it
pub alone_kept : (ws : List LineWord) (a : ExprAt) → IsKeptAt (expression ws) a → length a.rest.now < 1 → IsKept (expression_alone ws) a.expr
alone_kept ws a k h = record {
  parsed = k.parsed;
  is = ap (λ (r : Result Parsed LineBad). r >>= λ e. with_nothing_after e e.rest) k.is
      ∙ ap (λ (t : List LineWord). with_nothing_after k.parsed t) (sym k.rest ∙ nothing_left a.rest.now h);
  expr = k.expr;
}

-- no condition
pub condition_none : (ws : List LineWord) → length ws < 1 → IsKept (condition ws) (Some (Const Y))
condition_none [] h = let p : Parsed = record { expr = Const Y; signs = 0; rest = [] } in record { parsed = p; is = refl; expr = refl }
condition_none (w ∷ ws) h = let z : ⊥ = omega (arith, h) in absurd z
