-- What each rule of the grammar of expressions keeps holds of every expression that is read.
use Rattle.std.proofs.Common.{ℕ, zero, suc, ◌+◌, ◌*◌, ◌≤◌, max, arith, Bool, true, false, cond, List, [], ◌∷◌, drop, length, Option, None, Some}
use Rattle.std.specs.Prelude.{if◌then◌else◌}
use Rattle.kconf_entries.specs.declared.expr.Expr.{Expr}
use Rattle.kconf_entries.specs.declared.expr.Expr.TheVariants as expr
use Rattle.kconf_entries.specs.declared.expr.Sign.{Sign}
use Rattle.kconf_words.specs.declared.line_words.LineWord.{LineWord}
use Rattle.kconf_exprs.specs.declared.roles.Role.{Role}
use Rattle.kconf_exprs.specs.declared.roles.Role.TheVariants as role
use Rattle.kconf_exprs.specs.Grammar.{Parsed, Reader, ◌>>=◌, operand, compared, is_or, is_and, is_close, begins_with, role_of, disjunction, conjunction, joined_to, joined_by, right_by, right_side, symbol_by, symbol, negated, closed, factor_by, one_factor, Level, Alternatives, Conjuncts, Factor, within, expression_at}

-- what holds of an expression by how tightly it binds and how many signs stand over its words
pub record Keeps (Q : Level → ℕ → Expr → Type 0) : Type 0 where
  pub grows : (l : Level) (m n : ℕ) (e : Expr) → m ≤ n → Q l m e → Q l n e
  pub operands : (w : LineWord) → Q Factor 0 (operand w)
  pub comparisons : (a s : LineWord) (sign : Sign) (b : LineWord) → Q Factor 0 (compared a s sign b)
  pub negations : (n : ℕ) (e : Expr) → Q Factor n e → Q Factor (suc n) (expr.Neg e)
  pub brackets : (n : ℕ) (e : Expr) → Q Alternatives n e → Q Factor (suc n) e
  pub conjunct : (n : ℕ) (e : Expr) → Q Factor n e → Q Conjuncts n e
  pub alternative : (n : ℕ) (e : Expr) → Q Conjuncts n e → Q Alternatives n e
  pub conjunctions : (n : ℕ) (a b : Expr) → Q Factor n a → Q Conjuncts n b → Q Conjuncts n (conjunction a b)
  pub disjunctions : (n : ℕ) (a b : Expr) → Q Conjuncts n a → Q Alternatives n b → Q Alternatives n (disjunction a b)

-- it holds of what was read, if something was
abbrev pub HasIf : (Level → ℕ → Expr → Type 0) → Level → Option Parsed → Type 0
HasIf Q l None = Unit {0}
HasIf Q l (Some p) = Q l p.signs p.expr

abbrev Reads : (Level → ℕ → Expr → Type 0) → Level → Reader → Type 0
Reads Q l f = (ws : List LineWord) → HasIf Q l (f ws)

list_has : (Q : Level → ℕ → Expr → Type 0) (k : Keeps Q) (is : Role → Bool) (join : Expr → Expr → Expr) (l m : Level)
    → ((n : ℕ) (e : Expr) → Q l n e → Q m n e) → ((n : ℕ) (a b : Expr) → Q l n a → Q m n b → Q m n (join a b))
    → (one others : Reader) → Reads Q l one → Reads Q m others → Reads Q m (joined_by is join one others)
list_has Q k is join l m up joins one others f g ws = by (one ws) (f ws)
  where
    next : (a : Parsed) (o : Option Parsed) → Q l a.signs a.expr → HasIf Q m o → HasIf Q m (o >>= joined_to join a)
    next a None h i = tt
    next a (Some b) h i = joins (max a.signs b.signs) a.expr b.expr
        (k.grows l a.signs (max a.signs b.signs) a.expr (omega arith) h) (k.grows m b.signs (max a.signs b.signs) b.expr (omega arith) i)

    on : (a : Parsed) (x : Bool) → Q l a.signs a.expr → HasIf Q m (cond x (others (drop 1 a.rest) >>= joined_to join a) (Some a))
    on a true h = next a (others (drop 1 a.rest)) h (g (drop 1 a.rest))
    on a false h = up a.signs a.expr h

    by : (o : Option Parsed) → HasIf Q l o → HasIf Q m (o >>= λ a. cond (begins_with is a.rest) (others (drop 1 a.rest) >>= joined_to join a) (Some a))
    by None h = tt
    by (Some a) h = on a (begins_with is a.rest) h

negated_has : (Q : Level → ℕ → Expr → Type 0) → Keeps Q → (o : Option Parsed) → HasIf Q Factor o → HasIf Q Factor (o >>= negated)
negated_has Q k None h = tt
negated_has Q k (Some a) h = k.negations a.signs a.expr h

closed_has : (Q : Level → ℕ → Expr → Type 0) → Keeps Q → (o : Option Parsed) → HasIf Q Alternatives o → HasIf Q Factor (o >>= closed)
closed_has Q k None h = tt
closed_has Q k (Some a) h = by (begins_with is_close a.rest)
  where
    by : (x : Bool) → HasIf Q Factor (if x then Some (record { expr = a.expr; signs = suc a.signs; rest = drop 1 a.rest }) else None)
    by true = k.brackets a.signs a.expr h
    by false = tt

right_has : (Q : Level → ℕ → Expr → Type 0) → Keeps Q → (a s : LineWord) (sign : Sign) (ws : List LineWord) → HasIf Q Factor (right_side a s sign ws)
right_has Q k a s sign [] = tt
right_has Q k a s sign (b ∷ ws) = by (role_of b)
  where
    by : (r : Role) → HasIf Q Factor (right_by r a s sign b ws)
    by role.Operand = k.comparisons a s sign b
    by role.Not = tt
    by role.And = tt
    by role.Or = tt
    by role.Open = tt
    by role.Close = tt
    by (role.Compares x) = tt
    by role.Other = tt

symbol_has : (Q : Level → ℕ → Expr → Type 0) → Keeps Q → (a : LineWord) (ws : List LineWord) → HasIf Q Factor (symbol a ws)
symbol_has Q k a [] = k.operands a
symbol_has Q k a (s ∷ ws) = by (role_of s)
  where
    by : (r : Role) → HasIf Q Factor (symbol_by r a s ws)
    by role.Operand = k.operands a
    by role.Not = k.operands a
    by role.And = k.operands a
    by role.Or = k.operands a
    by role.Open = k.operands a
    by role.Close = k.operands a
    by (role.Compares x) = right_has Q k a s x ws
    by role.Other = k.operands a

factor_has : (Q : Level → ℕ → Expr → Type 0) → Keeps Q → (more inside : Reader) → Reads Q Factor more → Reads Q Alternatives inside → Reads Q Factor (one_factor more inside)
factor_has Q k more inside f g [] = tt
factor_has Q k more inside f g (w ∷ ws) = by (role_of w)
  where
    by : (r : Role) → HasIf Q Factor (factor_by r more inside w ws)
    by role.Operand = symbol_has Q k w ws
    by role.Not = negated_has Q k (more ws) (f ws)
    by role.Open = closed_has Q k (inside ws) (g ws)
    by role.And = tt
    by role.Or = tt
    by role.Close = tt
    by (role.Compares x) = tt
    by role.Other = tt

within_has : (Q : Level → ℕ → Expr → Type 0) → Keeps Q → (n : ℕ) (level : Level) → Reads Q level (within n level)
unfolding within
within_has Q k zero level ws = tt
within_has Q k (suc n) Alternatives ws = list_has Q k is_or disjunction Conjuncts Alternatives k.alternative k.disjunctions
    (within n Conjuncts) (within n Alternatives) (within_has Q k n Conjuncts) (within_has Q k n Alternatives) ws
within_has Q k (suc n) Conjuncts ws = list_has Q k is_and conjunction Factor Conjuncts k.conjunct k.conjunctions
    (within n Factor) (within n Conjuncts) (within_has Q k n Factor) (within_has Q k n Conjuncts) ws
within_has Q k (suc n) Factor ws = factor_has Q k (within n Factor) (within n Alternatives) (within_has Q k n Factor) (within_has Q k n Alternatives) ws

-- each expression that is read
pub expressions_have : (Q : Level → ℕ → Expr → Type 0) → Keeps Q → (ws : List LineWord) → HasIf Q Alternatives (expression_at ws)
unfolding expression_at
expressions_have Q k ws = within_has Q k (3 * length ws + 3) Alternatives ws
