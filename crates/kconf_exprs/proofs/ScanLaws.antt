-- The scan from the left finds an expression exactly where the grammar reads one, and ends where it does.
use Rattle.std.proofs.Common.{◌≡◌, ◌<◌, ℕ, suc, zero, ◌+◌, ◌-◌, ◌==◌, ◌∷◌, List, [], length, drop, length-drop, Bool, true, false, cond, refl, ap, sym, ◌∙◌, arith}
use Rattle.std.specs.Prelude.{Option, None, Some}
use Rattle.std.specs.Option.{option_map}
use Rattle.std.proofs.lemmas.Bool.{false≢true, eqb-true}
use Rattle.kconf_entries.specs.declared.expr.Expr.{Expr}
use Rattle.kconf_entries.specs.declared.expr.Sign.{Sign}
use Rattle.kconf_words.specs.declared.line_words.LineWord.{LineWord}
use Rattle.kconf_exprs.specs.declared.roles.Role.{Role}
use Rattle.kconf_exprs.specs.declared.roles.Role.TheVariants as role
use Rattle.kconf_exprs.specs.declared.lengths.Wants.{Wants}
use Rattle.kconf_exprs.specs.declared.lengths.Wants.TheVariants as wants
use Rattle.kconf_exprs.specs.declared.lengths.ScanStep.{ScanStep}
use Rattle.kconf_exprs.specs.declared.lengths.ScanStep.TheVariants.{Goes, Ends, Fails}
use Rattle.kconf_exprs.specs.Grammar.{Parsed, Reader, ◌>>=◌, is_or, is_and, begins_with, role_of, disjunction, conjunction, joined_to, joined_by, right_by, right_side, symbol_by, symbol, negated, closed, factor_by, expression_at, conjunction_at, factor_at}
use Rattle.kconf_exprs.specs.Scan.{after_operand, step, scan}
use Rattle.kconf_exprs.proofs.GrammarLaws.{expression_is, conjunction_is, factor_is, conjunction_shorter, factor_shorter}

-- ---- what stands after a list does not go on with it

list_stops : (is more : Role → Bool) (join : Expr → Expr → Expr) (one others : Reader) (ws : List LineWord) (p : Parsed) → joined_by is join one others ws ≡ Some p
    → ((a : Parsed) → one ws ≡ Some a → length a.rest < length ws)
    → ((a : Parsed) → one ws ≡ Some a → begins_with is a.rest ≡ false → begins_with more a.rest ≡ false)
    → ((us : List LineWord) (b : Parsed) → length us < length ws → others us ≡ Some b → begins_with more b.rest ≡ false)
    → begins_with more p.rest ≡ false
list_stops is more join one others ws p e short first later = by (one ws) refl e
  where
    joined : (a : Parsed) (o : Option Parsed) → others (drop 1 a.rest) ≡ o → length a.rest < length ws → (o >>= joined_to join a) ≡ Some p → begins_with more p.rest ≡ false
    joined a None q l k = cc
    joined a (Some b) q l k =
        let f : b.rest ≡ p.rest = cc in
        sym (ap (begins_with more) f) ∙ later (drop 1 a.rest) b (omega (arith, length-drop 1 a.rest)) q

    on : (a : Parsed) (x : Bool) → one ws ≡ Some a → begins_with is a.rest ≡ x → cond x (others (drop 1 a.rest) >>= joined_to join a) (Some a) ≡ Some p → begins_with more p.rest ≡ false
    on a true q h k = joined a (others (drop 1 a.rest)) refl (short a q) k
    on a false q h k =
        let f : a.rest ≡ p.rest = cc in
        sym (ap (begins_with more) f) ∙ first a q h

    by : (o : Option Parsed) → one ws ≡ o → (o >>= λ a. cond (begins_with is a.rest) (others (drop 1 a.rest) >>= joined_to join a) (Some a)) ≡ Some p → begins_with more p.rest ≡ false
    by None q k = cc
    by (Some a) q k = on a (begins_with is a.rest) q refl k

conjunction_stops : (n : ℕ) (ws : List LineWord) (p : Parsed) → length ws < n → conjunction_at ws ≡ Some p → begins_with is_and p.rest ≡ false
conjunction_stops zero ws p l e = absurd (omega arith)
conjunction_stops (suc n) ws p l e = list_stops is_and is_and conjunction factor_at conjunction_at ws p (sym (conjunction_is ws) ∙ e) (factor_shorter ws) (λ a q h. h)
    (λ us b k q. conjunction_stops n us b (omega arith) q)

expression_stops : (more : Role → Bool) → ((a : Parsed) (ws : List LineWord) → conjunction_at ws ≡ Some a → begins_with is_or a.rest ≡ false → begins_with more a.rest ≡ false)
    → (n : ℕ) (ws : List LineWord) (p : Parsed) → length ws < n → expression_at ws ≡ Some p → begins_with more p.rest ≡ false
expression_stops more first zero ws p l e = absurd (omega arith)
expression_stops more first (suc n) ws p l e = list_stops is_or more disjunction conjunction_at expression_at ws p (sym (expression_is ws) ∙ e) (conjunction_shorter ws) (λ a q h. first a ws q h)
    (λ us b k q. expression_stops more first n us b (omega arith) q)

no_or : (ws : List LineWord) (p : Parsed) → expression_at ws ≡ Some p → begins_with is_or p.rest ≡ false
no_or ws p e = expression_stops is_or (λ a us q h. h) (suc (length ws)) ws p (omega arith) e

no_and : (ws : List LineWord) (p : Parsed) → expression_at ws ≡ Some p → begins_with is_and p.rest ≡ false
no_and ws p e = expression_stops is_and (λ a us q h. conjunction_stops (suc (length us)) us a (omega arith) q) (suc (length ws)) ws p (omega arith) e

-- ---- the scan

After : ℕ → Option Parsed → Option (List LineWord)
After d None = None
After d (Some p) = scan wants.Joint d p.rest

Scans : Reader → ℕ → Type 0
Scans f n = (ws : List LineWord) → length ws < n → (d : ℕ) → scan wants.Operand d ws ≡ After d (f ws)

-- where a word leads
leads : ScanStep → LineWord → List LineWord → Option (List LineWord)
leads (Goes v d) w ws = scan v d ws
leads Ends w ws = Some (w ∷ ws)
leads Fails w ws = None

scan_leads : (v : Wants) (d : ℕ) (w : LineWord) (ws : List LineWord) → scan v d (w ∷ ws) ≡ leads (step v d (role_of w)) w ws
unfolding leads
scan_leads v d w ws = by (step v d (role_of w))
  where
    by : (s : ScanStep) → elim s as (λ x. Option (List LineWord)) [ Goes u e ↦ scan u e ws | Ends ↦ Some (w ∷ ws) | Fails ↦ None ] ≡ leads s w ws
    by (Goes u e) = refl
    by Ends = refl
    by Fails = refl

after_negated : (d : ℕ) (o : Option Parsed) → After d o ≡ After d (o >>= negated)
unfolding After
after_negated d None = refl
after_negated d (Some a) = refl

after_joined : (d : ℕ) (join : Expr → Expr → Expr) (a : Parsed) (o : Option Parsed) → After d o ≡ After d (o >>= joined_to join a)
unfolding After
after_joined d join a None = refl
after_joined d join a (Some b) = refl

not_zero : (d : ℕ) → (d + 1 == 0) ≡ false
not_zero d = by (d + 1 == 0) refl
  where
    by : (x : Bool) → (d + 1 == 0) ≡ x → (d + 1 == 0) ≡ false
    by true e = absurd (omega (arith, eqb-true (d + 1) 0 e))
    by false e = e

closes_by : (d : ℕ) (r : Role) (a : Parsed) (v : LineWord) (vs : List LineWord) → a.rest ≡ v ∷ vs → role_of v ≡ r → is_or r ≡ false → is_and r ≡ false
    → leads (after_operand (d + 1) r) v vs ≡ After d (closed a)
unfolding After leads
closes_by d role.Operand a v vs e q o n = rw (not_zero d, e, q) refl
closes_by d role.Not a v vs e q o n = rw (not_zero d, e, q) refl
closes_by d role.And a v vs e q o n = absurd (false≢true (sym n))
closes_by d role.Or a v vs e q o n = absurd (false≢true (sym o))
closes_by d role.Open a v vs e q o n = rw (not_zero d, e, q) refl
closes_by d role.Close a v vs e q o n = let f : d + 1 - 1 ≡ d = omega arith in rw (not_zero d, e, q, f) refl
closes_by d (role.Compares x) a v vs e q o n = rw (not_zero d, e, q) refl
closes_by d role.Other a v vs e q o n = rw (not_zero d, e, q) refl

closes_at : (d : ℕ) (a : Parsed) (rest : List LineWord) → a.rest ≡ rest → begins_with is_or a.rest ≡ false → begins_with is_and a.rest ≡ false
    → scan wants.Joint (d + 1) rest ≡ After d (closed a)
unfolding After
closes_at d a [] e o n = rw (not_zero d, e) refl
closes_at d a (v ∷ vs) e o n = scan_leads wants.Joint (d + 1) v vs ∙ closes_by d (role_of v) a v vs e refl (rw e at o) (rw e at n)

after_closed : (d : ℕ) (ws : List LineWord) (o : Option Parsed) → expression_at ws ≡ o → After (d + 1) o ≡ After d (o >>= closed)
unfolding After
after_closed d ws None e = refl
after_closed d ws (Some a) e = closes_at d a a.rest refl (no_or ws a e) (no_and ws a e)

right_by_role : (r : Role) (d : ℕ) (a s b : LineWord) (sign : Sign) (ws : List LineWord) → leads (step wants.Side d r) b ws ≡ After d (right_by r a s sign b ws)
unfolding After leads
right_by_role role.Operand d a s b sign ws = refl
right_by_role role.Not d a s b sign ws = refl
right_by_role role.And d a s b sign ws = refl
right_by_role role.Or d a s b sign ws = refl
right_by_role role.Open d a s b sign ws = refl
right_by_role role.Close d a s b sign ws = refl
right_by_role (role.Compares x) d a s b sign ws = refl
right_by_role role.Other d a s b sign ws = refl

right_scans : (d : ℕ) (a s : LineWord) (sign : Sign) (ws : List LineWord) → scan wants.Side d ws ≡ After d (right_side a s sign ws)
unfolding After
right_scans d a s sign [] = refl
right_scans d a s sign (b ∷ ws) = scan_leads wants.Side d b ws ∙ right_by_role (role_of b) d a s b sign ws

symbol_by_role : (r : Role) (d : ℕ) (a s : LineWord) (ws : List LineWord) → role_of s ≡ r → leads (step wants.Compare d r) s ws ≡ After d (symbol_by r a s ws)
unfolding After leads
symbol_by_role role.Operand d a s ws e = sym (scan_leads wants.Joint d s ws ∙ rw e refl)
symbol_by_role role.Not d a s ws e = sym (scan_leads wants.Joint d s ws ∙ rw e refl)
symbol_by_role role.And d a s ws e = sym (scan_leads wants.Joint d s ws ∙ rw e refl)
symbol_by_role role.Or d a s ws e = sym (scan_leads wants.Joint d s ws ∙ rw e refl)
symbol_by_role role.Open d a s ws e = sym (scan_leads wants.Joint d s ws ∙ rw e refl)
symbol_by_role role.Close d a s ws e = sym (scan_leads wants.Joint d s ws ∙ rw e refl)
symbol_by_role (role.Compares x) d a s ws e = right_scans d a s x ws
symbol_by_role role.Other d a s ws e = sym (scan_leads wants.Joint d s ws ∙ rw e refl)

symbol_scans : (d : ℕ) (a : LineWord) (ws : List LineWord) → scan wants.Compare d ws ≡ After d (symbol a ws)
unfolding After
symbol_scans d a [] = refl
symbol_scans d a (s ∷ ws) = scan_leads wants.Compare d s ws ∙ symbol_by_role (role_of s) d a s ws refl

factor_by_role : (r : Role) (n d : ℕ) (w : LineWord) (ws : List LineWord) → length ws < n → Scans factor_at n → Scans expression_at n
    → leads (step wants.Operand d r) w ws ≡ After d (factor_by r factor_at expression_at w ws)
unfolding After Scans leads
factor_by_role role.Operand n d w ws l f e = symbol_scans d w ws
factor_by_role role.Not n d w ws l f e = f ws l d ∙ after_negated d (factor_at ws)
factor_by_role role.And n d w ws l f e = refl
factor_by_role role.Or n d w ws l f e = refl
factor_by_role role.Open n d w ws l f e = e ws l (d + 1) ∙ after_closed d ws (expression_at ws) refl
factor_by_role role.Close n d w ws l f e = refl
factor_by_role (role.Compares x) n d w ws l f e = refl
factor_by_role role.Other n d w ws l f e = refl

factor_scans : (n : ℕ) → Scans factor_at n → Scans expression_at n → Scans factor_at (suc n)
unfolding After Scans
factor_scans n f e [] l d = sym (ap (After d) (factor_is []))
factor_scans n f e (w ∷ ws) l d = scan_leads wants.Operand d w ws ∙ factor_by_role (role_of w) n d w ws (omega arith) f e ∙ sym (ap (After d) (factor_is (w ∷ ws)))

or_goes_on : (d : ℕ) (r : Role) → is_or r ≡ true → after_operand d r ≡ Goes wants.Operand d
or_goes_on d role.Or h = refl
or_goes_on d r h = absurd (false≢true h)

and_goes_on : (d : ℕ) (r : Role) → is_and r ≡ true → after_operand d r ≡ Goes wants.Operand d
and_goes_on d role.And h = refl
and_goes_on d r h = absurd (false≢true h)

sign_scans : (is : Role → Bool) → ((d : ℕ) (r : Role) → is r ≡ true → after_operand d r ≡ Goes wants.Operand d)
    → (d : ℕ) (rest : List LineWord) → begins_with is rest ≡ true → scan wants.Joint d rest ≡ scan wants.Operand d (drop 1 rest)
unfolding leads
sign_scans is goes d [] h = absurd (false≢true h)
sign_scans is goes d (v ∷ vs) h = scan_leads wants.Joint d v vs ∙ ap (λ s. leads s v vs) (goes d (role_of v) h)

list_scans : (is : Role → Bool) (join : Expr → Expr → Expr) (one others : Reader) (n : ℕ) (ws : List LineWord) (d : ℕ)
    → ((e : ℕ) (r : Role) → is r ≡ true → after_operand e r ≡ Goes wants.Operand e)
    → length ws < suc n → ((a : Parsed) → one ws ≡ Some a → length a.rest < length ws)
    → scan wants.Operand d ws ≡ After d (one ws) → Scans others n → scan wants.Operand d ws ≡ After d (joined_by is join one others ws)
unfolding After Scans
list_scans is join one others n ws d goes l short first later = first ∙ by (one ws) refl
  where
    on : (a : Parsed) (x : Bool) → begins_with is a.rest ≡ x → length a.rest < length ws
        → scan wants.Joint d a.rest ≡ After d (cond x (others (drop 1 a.rest) >>= joined_to join a) (Some a))
    on a true h k = sign_scans is goes d a.rest h ∙ later (drop 1 a.rest) (omega (arith, length-drop 1 a.rest)) d ∙ after_joined d join a (others (drop 1 a.rest))
    on a false h k = refl

    by : (o : Option Parsed) → one ws ≡ o → After d o ≡ After d (o >>= λ a. cond (begins_with is a.rest) (others (drop 1 a.rest) >>= joined_to join a) (Some a))
    by None q = refl
    by (Some a) q = on a (begins_with is a.rest) refl (short a q)

scans : (n : ℕ) → Scans factor_at n × Scans conjunction_at n × Scans expression_at n
unfolding Scans
scans zero = (λ ws l d. absurd (omega arith), λ ws l d. absurd (omega arith), λ ws l d. absurd (omega arith))
scans (suc n) =
    let before = scans n in
    let f = factor_scans n before.0 before.2 in
    let c : Scans conjunction_at (suc n) = λ ws l d. list_scans is_and conjunction factor_at conjunction_at n ws d and_goes_on l (factor_shorter ws) (f ws l d) before.1 ∙ sym (ap (After d) (conjunction_is ws)) in
    let e : Scans expression_at (suc n) = λ ws l d. list_scans is_or disjunction conjunction_at expression_at n ws d or_goes_on l (conjunction_shorter ws) (c ws l d) before.2 ∙ sym (ap (After d) (expression_is ws)) in
    (f, c, e)

ends_by : (r : Role) (v : LineWord) (vs : List LineWord) → is_or r ≡ false → is_and r ≡ false → leads (after_operand 0 r) v vs ≡ Some (v ∷ vs)
unfolding leads
ends_by role.And v vs o n = absurd (false≢true (sym n))
ends_by role.Or v vs o n = absurd (false≢true (sym o))
ends_by role.Operand v vs o n = refl
ends_by role.Not v vs o n = refl
ends_by role.Open v vs o n = refl
ends_by role.Close v vs o n = refl
ends_by (role.Compares x) v vs o n = refl
ends_by role.Other v vs o n = refl

ends_at : (rest : List LineWord) → begins_with is_or rest ≡ false → begins_with is_and rest ≡ false → scan wants.Joint 0 rest ≡ Some rest
ends_at [] o n = refl
ends_at (v ∷ vs) o n = scan_leads wants.Joint 0 v vs ∙ ends_by (role_of v) v vs o n

-- the words that the scan leaves are those that the grammar leaves
pub scan_is : (ws : List LineWord) → scan wants.Operand 0 ws ≡ option_map (λ (p : Parsed). p.rest) (expression_at ws)
unfolding After Scans
scan_is ws = (scans (suc (length ws))).2 ws (omega arith) 0 ∙ by (expression_at ws) refl
  where
    by : (o : Option Parsed) → expression_at ws ≡ o → After 0 o ≡ option_map (λ (p : Parsed). p.rest) o
    by None e = refl
    by (Some p) e = ends_at p.rest (no_or ws p e) (no_and ws p e)
