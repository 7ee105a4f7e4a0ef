-- The grammar of expressions without its count of steps: an expression is alternatives of conjunctions of factors.
use Rattle.std.proofs.Common.{◌≡◌, ◌<◌, ◌≤◌, ℕ, suc, zero, ◌+◌, ◌*◌, ◌∷◌, List, [], length, drop, length-drop, Bool, true, false, cond, refl, ap, arith}
use Rattle.std.specs.Prelude.{Option, None, Some}
use Rattle.kconf_entries.specs.declared.expr.Expr.{Expr}
use Rattle.kconf_entries.specs.declared.expr.Sign.{Sign}
use Rattle.kconf_words.specs.declared.line_words.LineWord.{LineWord}
use Rattle.kconf_exprs.specs.declared.roles.Role.{Role}
use Rattle.kconf_exprs.specs.declared.roles.Role.TheVariants as role
use Rattle.kconf_exprs.specs.Grammar.{Parsed, Reader, ◌>>=◌, is_or, is_and, is_close, begins_with, role_of, disjunction, conjunction, joined_to, joined_by, right_by, right_side, symbol_by, symbol, negated, closed, factor_by, one_factor, Level, Alternatives, Conjuncts, Factor, within, expression_at, conjunction_at, factor_at}

-- ---- what is read leaves fewer words

Short : ℕ → Option Parsed → Type 0
Short n None = Unit {0}
Short n (Some p) = length p.rest < n

pub Shortens : Reader → Type 0
Shortens f = (ws : List LineWord) → Short (length ws) (f ws)

shorter_more : (n m : ℕ) (o : Option Parsed) → n ≤ m → Short n o → Short m o
unfolding Short
shorter_more n m None h s = tt
shorter_more n m (Some p) h s = omega arith

joined_short : (join : Expr → Expr → Expr) (a : Parsed) (n : ℕ) (o : Option Parsed) → Short n o → Short n (o >>= joined_to join a)
unfolding Short
joined_short join a n None s = tt
joined_short join a n (Some b) s = s

list_short : (is : Role → Bool) (join : Expr → Expr → Expr) (one others : Reader) → Shortens one → Shortens others → Shortens (joined_by is join one others)
unfolding Short Shortens
list_short is join one others f g ws = by (one ws) (f ws)
  where
    on : (a : Parsed) (x : Bool) → length a.rest < length ws → Short (length ws) (cond x (others (drop 1 a.rest) >>= joined_to join a) (Some a))
    on a true h = joined_short join a (length ws) (others (drop 1 a.rest))
        (shorter_more (length (drop 1 a.rest)) (length ws) (others (drop 1 a.rest)) (omega (arith, length-drop 1 a.rest)) (g (drop 1 a.rest)))
    on a false h = h

    by : (o : Option Parsed) → Short (length ws) o → Short (length ws) (o >>= λ a. cond (begins_with is a.rest) (others (drop 1 a.rest) >>= joined_to join a) (Some a))
    by None h = tt
    by (Some a) h = on a (begins_with is a.rest) h

negated_short : (n : ℕ) (o : Option Parsed) → Short n o → Short (suc n) (o >>= negated)
unfolding Short
negated_short n None s = tt
negated_short n (Some a) s = omega arith

closed_short : (n : ℕ) (o : Option Parsed) → Short n o → Short (suc n) (o >>= closed)
unfolding Short
closed_short n None s = tt
closed_short n (Some a) s = by (begins_with is_close a.rest) refl
  where
    by : (x : Bool) → begins_with is_close a.rest ≡ x → Short (suc n) (closed a)
    by true e = rw e (omega (arith, length-drop 1 a.rest))
    by false e = rw e tt

right_short : (a s : LineWord) (sign : Sign) (ws : List LineWord) → Short (length ws) (right_side a s sign ws)
unfolding Short
right_short a s sign [] = tt
right_short a s sign (b ∷ ws) = by (role_of b)
  where
    by : (r : Role) → Short (length (b ∷ ws)) (right_by r a s sign b ws)
    by role.Operand = omega arith
    by role.Not = tt
    by role.And = tt
    by role.Or = tt
    by role.Open = tt
    by role.Close = tt
    by (role.Compares x) = tt
    by role.Other = tt

symbol_short : (a : LineWord) (ws : List LineWord) → Short (suc (length ws)) (symbol a ws)
unfolding Short
symbol_short a [] = omega arith
symbol_short a (s ∷ ws) = by (role_of s)
  where
    by : (r : Role) → Short (suc (length (s ∷ ws))) (symbol_by r a s ws)
    by role.Operand = omega arith
    by role.Not = omega arith
    by role.And = omega arith
    by role.Or = omega arith
    by role.Open = omega arith
    by role.Close = omega arith
    by (role.Compares x) = shorter_more (length ws) (suc (length (s ∷ ws))) (right_side a s x ws) (omega arith) (right_short a s x ws)
    by role.Other = omega arith

factor_short : (more inside : Reader) → Shortens more → Shortens inside → Shortens (one_factor more inside)
unfolding Short Shortens
factor_short more inside f g [] = tt
factor_short more inside f g (w ∷ ws) = by (role_of w)
  where
    by : (r : Role) → Short (suc (length ws)) (factor_by r more inside w ws)
    by role.Operand = symbol_short w ws
    by role.Not = negated_short (length ws) (more ws) (f ws)
    by role.Open = closed_short (length ws) (inside ws) (g ws)
    by role.And = tt
    by role.Or = tt
    by role.Close = tt
    by (role.Compares x) = tt
    by role.Other = tt

within_short : (n : ℕ) (level : Level) → Shortens (within n level)
unfolding within Short Shortens
within_short zero level ws = tt
within_short (suc n) Alternatives ws = list_short is_or disjunction (within n Conjuncts) (within n Alternatives) (within_short n Conjuncts) (within_short n Alternatives) ws
within_short (suc n) Conjuncts ws = list_short is_and conjunction (within n Factor) (within n Conjuncts) (within_short n Factor) (within_short n Conjuncts) ws
within_short (suc n) Factor ws = factor_short (within n Factor) (within n Alternatives) (within_short n Factor) (within_short n Alternatives) ws

-- ---- more steps read the same

Agree : Reader → Reader → ℕ → Type 0
Agree f g n = (us : List LineWord) → length us < n → f us ≡ g us

list_agree : (is : Role → Bool) (join : Expr → Expr → Expr) (one one2 others others2 : Reader) (ws : List LineWord) → one ws ≡ one2 ws → Short (length ws) (one ws)
    → Agree others others2 (length ws) → joined_by is join one others ws ≡ joined_by is join one2 others2 ws
unfolding Short Agree
list_agree is join one one2 others others2 ws e s h = rw (← e) (by (one ws) s)
  where
    on : (a : Parsed) (x : Bool) → length a.rest < length ws
        → cond x (others (drop 1 a.rest) >>= joined_to join a) (Some a) ≡ cond x (others2 (drop 1 a.rest) >>= joined_to join a) (Some a)
    on a true k = ap (λ o. o >>= joined_to join a) (h (drop 1 a.rest) (omega (arith, length-drop 1 a.rest)))
    on a false k = refl

    by : (o : Option Parsed) → Short (length ws) o
        → (o >>= λ a. cond (begins_with is a.rest) (others (drop 1 a.rest) >>= joined_to join a) (Some a))
        ≡ (o >>= λ a. cond (begins_with is a.rest) (others2 (drop 1 a.rest) >>= joined_to join a) (Some a))
    by None k = refl
    by (Some a) k = on a (begins_with is a.rest) k

factor_agree : (more more2 inside inside2 : Reader) (ws : List LineWord) → Agree more more2 (length ws) → Agree inside inside2 (length ws)
    → one_factor more inside ws ≡ one_factor more2 inside2 ws
unfolding Agree
factor_agree more more2 inside inside2 [] h k = refl
factor_agree more more2 inside inside2 (w ∷ ws) h k = by (role_of w)
  where
    by : (r : Role) → factor_by r more inside w ws ≡ factor_by r more2 inside2 w ws
    by role.Operand = refl
    by role.Not = ap (λ o. o >>= negated) (h ws (omega arith))
    by role.Open = ap (λ o. o >>= closed) (k ws (omega arith))
    by role.And = refl
    by role.Or = refl
    by role.Close = refl
    by (role.Compares x) = refl
    by role.Other = refl

rank : Level → ℕ
rank Alternatives = 3
rank Conjuncts = 2
rank Factor = 1

agree : (n m : ℕ) (level : Level) (ws : List LineWord) → 3 * length ws + rank level ≤ n → 3 * length ws + rank level ≤ m → within n level ws ≡ within m level ws
unfolding within rank Agree Shortens
agree zero m Alternatives ws a b = absurd (omega arith)
agree zero m Conjuncts ws a b = absurd (omega arith)
agree zero m Factor ws a b = absurd (omega arith)
agree (suc n) zero Alternatives ws a b = absurd (omega arith)
agree (suc n) zero Conjuncts ws a b = absurd (omega arith)
agree (suc n) zero Factor ws a b = absurd (omega arith)
agree (suc n) (suc m) Alternatives ws a b =
    list_agree is_or disjunction (within n Conjuncts) (within m Conjuncts) (within n Alternatives) (within m Alternatives) ws
    (agree n m Conjuncts ws (omega arith) (omega arith)) (within_short n Conjuncts ws) (λ us h. agree n m Alternatives us (omega arith) (omega arith))
agree (suc n) (suc m) Conjuncts ws a b =
    list_agree is_and conjunction (within n Factor) (within m Factor) (within n Conjuncts) (within m Conjuncts) ws
    (agree n m Factor ws (omega arith) (omega arith)) (within_short n Factor ws) (λ us h. agree n m Conjuncts us (omega arith) (omega arith))
agree (suc n) (suc m) Factor ws a b =
    factor_agree (within n Factor) (within m Factor) (within n Alternatives) (within m Alternatives) ws
    (λ us h. agree n m Factor us (omega arith) (omega arith)) (λ us h. agree n m Alternatives us (omega arith) (omega arith))

-- ---- the grammar

pub expression_is : (ws : List LineWord) → expression_at ws ≡ joined_by is_or disjunction conjunction_at expression_at ws
unfolding within expression_at conjunction_at rank Agree Shortens
expression_is ws =
    let e : 3 * length ws + 3 ≡ suc (3 * length ws + 2) = omega arith in
    rw e (list_agree is_or disjunction (within (3 * length ws + 2) Conjuncts) conjunction_at (within (3 * length ws + 2) Alternatives) expression_at ws
    refl (within_short (3 * length ws + 2) Conjuncts ws) (λ us h. agree (3 * length ws + 2) (3 * length us + 3) Alternatives us (omega arith) (omega arith)))

pub conjunction_is : (ws : List LineWord) → conjunction_at ws ≡ joined_by is_and conjunction factor_at conjunction_at ws
unfolding within factor_at conjunction_at rank Agree Shortens
conjunction_is ws =
    let e : 3 * length ws + 2 ≡ suc (3 * length ws + 1) = omega arith in
    rw e (list_agree is_and conjunction (within (3 * length ws + 1) Factor) factor_at (within (3 * length ws + 1) Conjuncts) conjunction_at ws
    refl (within_short (3 * length ws + 1) Factor ws) (λ us h. agree (3 * length ws + 1) (3 * length us + 2) Conjuncts us (omega arith) (omega arith)))

pub factor_is : (ws : List LineWord) → factor_at ws ≡ one_factor factor_at expression_at ws
unfolding within factor_at expression_at rank Agree
factor_is ws =
    let e : 3 * length ws + 1 ≡ suc (3 * length ws) = omega arith in
    rw e (factor_agree (within (3 * length ws) Factor) factor_at (within (3 * length ws) Alternatives) expression_at ws
    (λ us h. agree (3 * length ws) (3 * length us + 1) Factor us (omega arith) (omega arith)) (λ us h. agree (3 * length ws) (3 * length us + 3) Alternatives us (omega arith) (omega arith)))

short_of : (n : ℕ) (o : Option Parsed) (a : Parsed) → Short n o → o ≡ Some a → length a.rest < n
unfolding Short
short_of n None a s e = cc
short_of n (Some b) a s e = let f : b ≡ a = cc in omega (arith, ap (λ (p : Parsed). length p.rest) f)

pub conjunction_shorter : (ws : List LineWord) (a : Parsed) → conjunction_at ws ≡ Some a → length a.rest < length ws
unfolding conjunction_at Shortens
conjunction_shorter ws a e = short_of (length ws) (within (3 * length ws + 2) Conjuncts ws) a (within_short (3 * length ws + 2) Conjuncts ws) e

pub factor_shorter : (ws : List LineWord) (a : Parsed) → factor_at ws ≡ Some a → length a.rest < length ws
unfolding factor_at Shortens
factor_shorter ws a e = short_of (length ws) (within (3 * length ws + 1) Factor ws) a (within_short (3 * length ws + 1) Factor ws) e
