-- Each sign over a word nests an expression by two at most, and so do `&&` and `||` over all of it.
use Rattle.std.proofs.Common.{ℕ, suc, ◌+◌, ◌*◌, ◌≤◌, arith, ◌≡◌, ◌∙◌, refl, sym, ap, subst, Bool, true, false, ◌||◌, List, [], ◌∷◌, ◌++◌, map, Option, None, Some}
use Rattle.std.specs.Prelude.{if◌then◌else◌}
use Rattle.std.specs.List.{AllByRecursion}
use Rattle.kconf_entries.specs.declared.expr.Expr.{Expr, out-Expr}
use Rattle.kconf_entries.specs.declared.expr.Sign.{Sign}
use Rattle.kconf_entries.specs.declared.expr.Expr.TheOpen.{Expr-F}
use Rattle.kconf_entries.specs.declared.expr.Expr.TheVariants as expr
use Rattle.kconf_entries.specs.declared.expr.Expr.TheFolds.{fold_out-Expr, map-Expr}
use Rattle.ut_text.specs.Bytes.{Bytes}
use Rattle.ut_logic.specs.declared.trit.Trit.{Trit}
use Rattle.ut_logic.specs.declared.trit.Trit.TheVariants.{N}
use Rattle.kconf_words.specs.Kinds.{text_of, constant_of, is_name}
use Rattle.kconf_words.specs.declared.line_words.LineWord.{LineWord}
use Rattle.kconf_exprs.specs.Grammar.{plain_operand, operand, side_of, compared, any_members_at, all_members_at, any_members, all_members, disjunction, conjunction, Level, Alternatives, Conjuncts, Factor}
use Rattle.kconf_formed.specs.Nesting.{greatest, nesting_layer, nesting}
use Rattle.kconf_formed.proofs.GrammarKeeps.{Keeps}
use Rattle.kconf_formed.proofs.FlatLaws.{out_and, out_or, out_neg, out_const, out_name, out_outer, out_compare}

abbrev pub layer : Expr-F Expr → ℕ
layer x = nesting_layer (map-Expr Expr ℕ nesting x)

pub nesting_at : (e : Expr) (x : Expr-F Expr) → out-Expr e ≡ x → nesting e ≡ layer x
nesting_at e x is = fold_out-Expr ℕ nesting_layer e ∙ ap layer is

-- ---- each of these is nested so deep at most
abbrev pub IsWithin : ℕ → Expr → Type 0
IsWithin n e = nesting e ≤ n

abbrev pub AreWithin : ℕ → List Expr → Type 0
AreWithin n es = AllByRecursion (IsWithin n) es

pub wider : (m n : ℕ) (es : List Expr) → m ≤ n → AreWithin m es → AreWithin n es
wider m n [] lt h = tt
wider m n (e ∷ es) lt h = (omega (arith, lt, h.0), wider m n es lt h.1)

pub all_within : (n : ℕ) (xs ys : List Expr) → AreWithin n xs → AreWithin n ys → AreWithin n (xs ++ ys)
all_within n [] ys h g = g
all_within n (x ∷ xs) ys h g = (h.0, all_within n xs ys h.1 g)

pub greatest_within : (n : ℕ) (es : List Expr) → AreWithin n es → greatest (map nesting es) ≤ n
greatest_within n [] h = omega arith
greatest_within n (e ∷ es) h = let g = greatest_within n es h.1 in let own = h.0 in omega arith

pub within_greatest : (n : ℕ) (es : List Expr) → greatest (map nesting es) ≤ n → AreWithin n es
within_greatest n [] h = tt
within_greatest n (e ∷ es) h = (omega (arith, h), within_greatest n es (omega (arith, h)))

-- a list of expressions that are nested so deep
pub and_within : (n : ℕ) (es : List Expr) → AreWithin n es → nesting (expr.And es) ≤ n + 1
and_within n es h = let g = greatest_within n es h in let is = nesting_at (expr.And es) (Expr-F.And es) (out_and es) in omega (arith, g, is)

pub or_within : (n : ℕ) (es : List Expr) → AreWithin n es → nesting (expr.Or es) ≤ n + 1
or_within n es h = let g = greatest_within n es h in let is = nesting_at (expr.Or es) (Expr-F.Or es) (out_or es) in omega (arith, g, is)

-- the members of a list are less deep than the list
pub inner_within : (n : ℕ) (e : Expr) (es : List Expr) → nesting e ≡ 1 + greatest (map nesting es) → nesting e ≤ n → AreWithin n es
inner_within n e es is h = within_greatest n es (omega (arith, is, h))

any_within : (n : ℕ) (e : Expr) → IsWithin n e → AreWithin n (any_members e)
any_within n e h = by (out-Expr e) refl
  where
    by : (x : Expr-F Expr) → out-Expr e ≡ x → AreWithin n (any_members_at e x)
    by (Expr-F.Or es) is = inner_within n e es (nesting_at e (Expr-F.Or es) is) h
    by (Expr-F.And es) is = (h, tt)
    by (Expr-F.Const v) is = (h, tt)
    by (Expr-F.Name m) is = (h, tt)
    by (Expr-F.Outer t) is = (h, tt)
    by (Expr-F.Compare l s r) is = (h, tt)
    by (Expr-F.Neg f) is = (h, tt)

all_members_within : (n : ℕ) (e : Expr) → IsWithin n e → AreWithin n (all_members e)
all_members_within n e h = by (out-Expr e) refl
  where
    by : (x : Expr-F Expr) → out-Expr e ≡ x → AreWithin n (all_members_at e x)
    by (Expr-F.And es) is = inner_within n e es (nesting_at e (Expr-F.And es) is) h
    by (Expr-F.Or es) is = (h, tt)
    by (Expr-F.Const v) is = (h, tt)
    by (Expr-F.Name m) is = (h, tt)
    by (Expr-F.Outer t) is = (h, tt)
    by (Expr-F.Compare l s r) is = (h, tt)
    by (Expr-F.Neg f) is = (h, tt)

-- an expression is one deeper than its members
any_over : (n : ℕ) (e : Expr) → AreWithin n (any_members e) → nesting e ≤ n + 1
any_over n e h = by (out-Expr e) refl h
  where
    one : nesting e ≤ n → nesting e ≤ n + 1
    one g = omega (arith, g)

    by : (x : Expr-F Expr) → out-Expr e ≡ x → AreWithin n (any_members_at e x) → nesting e ≤ n + 1
    by (Expr-F.Or es) is g = let top = greatest_within n es g in let same = nesting_at e (Expr-F.Or es) is in omega (arith, top, same)
    by (Expr-F.And es) is g = one g.0
    by (Expr-F.Const v) is g = one g.0
    by (Expr-F.Name m) is g = one g.0
    by (Expr-F.Outer t) is g = one g.0
    by (Expr-F.Compare l s r) is g = one g.0
    by (Expr-F.Neg f) is g = one g.0

all_over : (n : ℕ) (e : Expr) → AreWithin n (all_members e) → nesting e ≤ n + 1
all_over n e h = by (out-Expr e) refl h
  where
    one : nesting e ≤ n → nesting e ≤ n + 1
    one g = omega (arith, g)

    by : (x : Expr-F Expr) → out-Expr e ≡ x → AreWithin n (all_members_at e x) → nesting e ≤ n + 1
    by (Expr-F.And es) is g = let top = greatest_within n es g in let same = nesting_at e (Expr-F.And es) is in omega (arith, top, same)
    by (Expr-F.Or es) is g = one g.0
    by (Expr-F.Const v) is g = one g.0
    by (Expr-F.Name m) is g = one g.0
    by (Expr-F.Outer t) is g = one g.0
    by (Expr-F.Compare l s r) is g = one g.0
    by (Expr-F.Neg f) is g = one g.0

-- the members that and_within's list is read back to
all_of_and : (es : List Expr) → all_members (expr.And es) ≡ es
all_of_and es = ap (all_members_at (expr.And es)) (out_and es)

any_of_or : (es : List Expr) → any_members (expr.Or es) ≡ es
any_of_or es = ap (any_members_at (expr.Or es)) (out_or es)

-- ---- operands
flat_at_most : (n : ℕ) (e : Expr) (x : Expr-F Expr) → out-Expr e ≡ x → layer x ≡ 0 → nesting e ≤ n
flat_at_most n e x is h = let same = nesting_at e x is in omega (arith, same, h)

plain_within : (w : LineWord) (o : Option Trit) → nesting (plain_operand w o) ≤ 0
plain_within w (Some v) = flat_at_most 0 (expr.Const v) (Expr-F.Const v) (out_const v) refl
plain_within w None = by (is_name w)
  where
    by : (b : Bool) → nesting (if b then expr.Name (text_of w) else expr.Const N) ≤ 0
    by true = flat_at_most 0 (expr.Name (text_of w)) (Expr-F.Name (text_of w)) (out_name (text_of w)) refl
    by false = flat_at_most 0 (expr.Const N) (Expr-F.Const N) (out_const N) refl

operand_within : (w : LineWord) → nesting (operand w) ≤ 0
operand_within w = by w.has_call
  where
    by : (b : Bool) → nesting (if b then expr.Outer (text_of w) else plain_operand w (constant_of w)) ≤ 0
    by true = flat_at_most 0 (expr.Outer (text_of w)) (Expr-F.Outer (text_of w)) (out_outer (text_of w)) refl
    by false = plain_within w (constant_of w)

compared_within : (a s : LineWord) (sign : Sign) (b : LineWord) → nesting (compared a s sign b) ≤ 0
compared_within a s sign b = by (a.has_call || b.has_call) _
  where
    by : (x : Bool) (t : Bytes) → nesting (if x then expr.Outer t else expr.Compare (side_of a) sign (side_of b)) ≤ 0
    by true t = flat_at_most 0 (expr.Outer t) (Expr-F.Outer t) (out_outer t) refl
    by false t = flat_at_most 0 (expr.Compare (side_of a) sign (side_of b)) (Expr-F.Compare (side_of a) sign (side_of b)) (out_compare (side_of a) sign (side_of b)) refl

-- ---- by how tightly an expression binds
abbrev pub IsNested : Level → ℕ → Expr → Type 0
IsNested Factor n e = nesting e ≤ 2 * n
IsNested Conjuncts n e = AreWithin (2 * n) (all_members e)
IsNested Alternatives n e = AreWithin (2 * n + 1) (any_members e)

grown : (l : Level) (m n : ℕ) (e : Expr) → m ≤ n → IsNested l m e → IsNested l n e
grown Factor m n e lt h = omega (arith, lt, h)
grown Conjuncts m n e lt h = wider (2 * m) (2 * n) (all_members e) (omega (arith, lt)) h
grown Alternatives m n e lt h = wider (2 * m + 1) (2 * n + 1) (any_members e) (omega (arith, lt)) h

negated : (n : ℕ) (e : Expr) → IsNested Factor n e → IsNested Factor (suc n) (expr.Neg e)
negated n e h = let is = nesting_at (expr.Neg e) (Expr-F.Neg e) (out_neg e) in omega (arith, is, h)

bracketed : (n : ℕ) (e : Expr) → IsNested Alternatives n e → IsNested Factor (suc n) e
bracketed n e h = let over = any_over (2 * n + 1) e h in omega (arith, over)

conjunct : (n : ℕ) (e : Expr) → IsNested Factor n e → IsNested Conjuncts n e
conjunct n e h = all_members_within (2 * n) e h

alternative : (n : ℕ) (e : Expr) → IsNested Conjuncts n e → IsNested Alternatives n e
alternative n e h = any_within (2 * n + 1) e (all_over (2 * n) e h)

conjoined : (n : ℕ) (a b : Expr) → IsNested Factor n a → IsNested Conjuncts n b → IsNested Conjuncts n (conjunction a b)
conjoined n a b h g = subst (AreWithin (2 * n)) (sym (all_of_and (all_members a ++ all_members b))) (all_within (2 * n) (all_members a) (all_members b) (all_members_within (2 * n) a h) g)

disjoined : (n : ℕ) (a b : Expr) → IsNested Conjuncts n a → IsNested Alternatives n b → IsNested Alternatives n (disjunction a b)
disjoined n a b h g = subst (AreWithin (2 * n + 1)) (sym (any_of_or (any_members a ++ any_members b))) (all_within (2 * n + 1) (any_members a) (any_members b) (alternative n a h) g)

pub nesting_kept : Keeps IsNested
nesting_kept = record {
  grows = grown;
  operands = operand_within;
  comparisons = compared_within;
  negations = negated;
  brackets = bracketed;
  conjunct = conjunct;
  alternative = alternative;
  conjunctions = conjoined;
  disjunctions = disjoined;
}

-- two deeper at most than there are signs twice over a word
pub nested_by_signs : (n : ℕ) (e : Expr) → IsNested Alternatives n e → nesting e ≤ 2 * n + 2
nested_by_signs n e h = let over = any_over (2 * n + 1) e h in omega (arith, over)
