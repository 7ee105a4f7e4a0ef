-- What is read of a list, member by member.
use Rattle.std.proofs.Common.{◌≡◌, ◌<◌, ◌≤◌, ℕ, suc, ◌-◌, ◌++◌, List, drop, Bool, true, false, cond, append_assoc, refl, ap, sym, ◌∙◌, arith, rules, max}
use Rattle.std.specs.Prelude.{Option, None, Some}
use Rattle.kconf_entries.specs.declared.expr.Expr.{Expr, out-Expr}
use Rattle.kconf_entries.specs.declared.expr.Expr.TheOpen.{Expr-F}
use Rattle.kconf_entries.specs.declared.expr.Expr.TheViews.{the_lemmas}
use Rattle.kconf_entries.specs.declared.expr.Expr.TheVariants as expr
use Rattle.kconf_words.specs.declared.line_words.LineWord.{LineWord}
use Rattle.kconf_exprs.specs.declared.joints.Joint.{Joint}
use Rattle.kconf_exprs.specs.declared.joints.Joint.TheVariants as joint
use Rattle.kconf_exprs.specs.declared.reader.ExprBad.{ExprBad}
use Rattle.kconf_exprs.specs.declared.reader.ExprBad.TheVariants.{Absent, TooDeep, Oom}
use Rattle.kconf_exprs.specs.Grammar.{Parsed, ◌>>=◌, begins_with, any_members_at, all_members_at, any_members, all_members, joined_to, negated, factor_at}
use Rattle.kconf_exprs.specs.Reading.{joins, join, list_at, member_at, list_after, IsRead, IsBegun, Refuses, factor_form, negated_at}
use Rattle.kconf_exprs.proofs.GrammarLaws.{expression_is, conjunction_is, factor_is}

-- the same where two readers agree
pub read_as : (room : ℕ) (x y : Option Parsed) (e : Expr) (rest : List LineWord) → y ≡ x → IsRead room x e rest → IsRead room y e rest
read_as room x y e rest same h = record { signs = h.signs; within = h.within; is = same ∙ h.is }

pub refuses_as : (e : ExprBad) (room : ℕ) (x y : Option Parsed) → y ≡ x → Refuses e room x → Refuses e room y
refuses_as Absent room x y same h = same ∙ h
refuses_as TooDeep room x y same h = λ p q. h p (sym same ∙ q)
refuses_as Oom room x y same h = tt

-- ---- negations

pub negated_read : (room : ℕ) (ws : List LineWord) (e : Expr) (rest : List LineWord) → 0 < room → IsRead (room - 1) (factor_form ws) e rest
    → IsRead room (negated_at ws) (expr.Neg e) rest
negated_read room ws e rest some h = record { signs = suc h.signs; within = omega (arith, h.within); is = rw (factor_is ws, h.is) refl }

negated_deep : (room : ℕ) (o : Option Parsed) → 0 < room → ((a : Parsed) → o ≡ Some a → room - 1 < a.signs) → (p : Parsed) → (o >>= negated) ≡ Some p → room < p.signs
negated_deep room None some h p q = cc
negated_deep room (Some a) some h p q =
    let deep = h a refl in
    let e : suc a.signs ≡ p.signs = cc in
    omega (arith, deep)

pub negated_refused : (e : ExprBad) (room : ℕ) (ws : List LineWord) → 0 < room → Refuses e (room - 1) (factor_form ws) → Refuses e room (negated_at ws)
negated_refused Absent room ws some h = rw (factor_is ws, h) refl
negated_refused TooDeep room ws some h = negated_deep room (factor_at ws) some (λ a q. h a (sym (factor_is ws) ∙ q))
negated_refused Oom room ws some h = tt

-- ---- lists

list_is : (j : Joint) (ws : List LineWord) → list_at j ws ≡ (member_at j ws >>= list_after j)
list_is joint.Any ws = expression_is ws
list_is joint.All ws = conjunction_is ws

out_or : (es : List Expr) → out-Expr (expr.Or es) ≡ Expr-F.Or es
out_or es = search (rules, the_lemmas)

out_and : (es : List Expr) → out-Expr (expr.And es) ≡ Expr-F.And es
out_and es = search (rules, the_lemmas)

members_of_or : (es : List Expr) → any_members (expr.Or es) ≡ es
members_of_or es = ap (any_members_at (expr.Or es)) (out_or es)

members_of_and : (es : List Expr) → all_members (expr.And es) ≡ es
members_of_and es = ap (all_members_at (expr.And es)) (out_and es)

join_assoc : (j : Joint) (a b c : Expr) → join j a (join j b c) ≡ join j (join j a b) c
join_assoc joint.Any a b c = ap (λ (es : List Expr). expr.Or (any_members a ++ es)) (members_of_or (any_members b ++ any_members c))
    ∙ ap (λ (es : List Expr). expr.Or es) (sym (append_assoc (any_members a) (any_members b) (any_members c)))
    ∙ sym (ap (λ (es : List Expr). expr.Or (es ++ any_members c)) (members_of_or (any_members a ++ any_members b)))
join_assoc joint.All a b c = ap (λ (es : List Expr). expr.And (all_members a ++ es)) (members_of_and (all_members b ++ all_members c))
    ∙ ap (λ (es : List Expr). expr.And es) (sym (append_assoc (all_members a) (all_members b) (all_members c)))
    ∙ sym (ap (λ (es : List Expr). expr.And (es ++ all_members c)) (members_of_and (all_members a ++ all_members b)))

-- two members joined go on as the second does
absorbed : (j : Joint) (a b : Parsed)
    → (list_after j b >>= joined_to (join j) a) ≡ list_after j (record { expr = join j a.expr b.expr; signs = max a.signs b.signs; rest = b.rest })
absorbed j a b = by (begins_with (joins j) b.rest) (list_at j (drop 1 b.rest))
  where
    both : (c : Parsed) → (joined_to (join j) b c >>= joined_to (join j) a) ≡ joined_to (join j) (record { expr = join j a.expr b.expr; signs = max a.signs b.signs; rest = b.rest }) c
    both c =
        let m : max a.signs (max b.signs c.signs) ≡ max (max a.signs b.signs) c.signs = omega arith in
        rw (join_assoc j a.expr b.expr c.expr, m) refl

    by : (x : Bool) (o : Option Parsed)
        → (cond x (o >>= joined_to (join j) b) (Some b) >>= joined_to (join j) a)
        ≡ cond x (o >>= joined_to (join j) (record { expr = join j a.expr b.expr; signs = max a.signs b.signs; rest = b.rest })) (Some (record { expr = join j a.expr b.expr; signs = max a.signs b.signs; rest = b.rest }))
    by true None = refl
    by true (Some c) = both c
    by false o = refl

after_sign : (j : Joint) (a : Parsed) → begins_with (joins j) a.rest ≡ true → list_after j a ≡ (list_at j (drop 1 a.rest) >>= joined_to (join j) a)
after_sign j a h = rw h refl

-- the first member begins the list
pub begun_first : (j : Joint) (room : ℕ) (ws : List LineWord) (e : Expr) (rest : List LineWord) → IsRead room (member_at j ws) e rest → IsBegun j room (list_at j ws) e rest
begun_first j room ws e rest h = record { signs = h.signs; within = h.within; left = sym (list_is j ws ∙ ap (λ o. o >>= list_after j) h.is) }

-- one more member goes on with it
pub begun_next : (j : Joint) (room : ℕ) (whole : Option Parsed) (e next new : Expr) (rest after ws : List LineWord) → begins_with (joins j) rest ≡ true → ws ≡ drop 1 rest
    → IsBegun j room whole e rest → IsRead room (member_at j ws) next after → new ≡ join j e next → IsBegun j room whole new after
begun_next j room whole e next new rest after ws sign is h r n =
    let a : Parsed = record { expr = e; signs = h.signs; rest = rest } in
    let b : Parsed = record { expr = next; signs = r.signs; rest = after } in
    record {
      signs = max h.signs r.signs;
      within = omega (arith, h.within, r.within);
      left = ap (λ x. list_after j (record { expr = x; signs = max h.signs r.signs; rest = after })) n
          ∙ sym (absorbed j a b)
          ∙ sym (ap (λ o. o >>= joined_to (join j) a) (ap (list_at j) (sym is) ∙ list_is j ws ∙ ap (λ o. o >>= list_after j) r.is))
          ∙ sym (after_sign j a sign)
          ∙ h.left;
    }

-- a list has no fewer signs than what it begins with
signs_grow : (j : Joint) (a w : Parsed) → list_after j a ≡ Some w → a.signs ≤ w.signs
signs_grow j a w h = by (begins_with (joins j) a.rest) (list_at j (drop 1 a.rest)) h
  where
    by : (x : Bool) (o : Option Parsed) → cond x (o >>= joined_to (join j) a) (Some a) ≡ Some w → a.signs ≤ w.signs
    by true None h = cc
    by true (Some c) h = let e : max a.signs c.signs ≡ w.signs = cc in omega arith
    by false o h = let e : a.signs ≡ w.signs = cc in omega arith

first_deep : (j : Joint) (room : ℕ) (o : Option Parsed) → ((a : Parsed) → o ≡ Some a → room < a.signs) → (w : Parsed) → (o >>= list_after j) ≡ Some w → room < w.signs
first_deep j room None h w q = cc
first_deep j room (Some a) h w q = omega (arith, h a refl, signs_grow j a w q)

-- what refuses the first member refuses the list
pub fails_first : (e : ExprBad) (j : Joint) (room : ℕ) (ws : List LineWord) → Refuses e room (member_at j ws) → Refuses e room (list_at j ws)
fails_first Absent j room ws h = list_is j ws ∙ ap (λ o. o >>= list_after j) h
fails_first TooDeep j room ws h = λ w q. first_deep j room (member_at j ws) h w (sym (list_is j ws) ∙ q)
fails_first Oom j room ws h = tt

next_deep : (j : Joint) (room : ℕ) (a : Parsed) (o : Option Parsed) → ((w : Parsed) → o ≡ Some w → room < w.signs) → (w : Parsed) → (o >>= joined_to (join j) a) ≡ Some w → room < w.signs
next_deep j room a None h w q = cc
next_deep j room a (Some c) h w q =
    let e : max a.signs c.signs ≡ w.signs = cc in
    omega (arith, h c refl)

-- and so does what refuses a later one
pub fails_next : (e : ExprBad) (j : Joint) (room : ℕ) (whole : Option Parsed) (x : Expr) (rest ws : List LineWord) → begins_with (joins j) rest ≡ true → ws ≡ drop 1 rest
    → IsBegun j room whole x rest → Refuses e room (member_at j ws) → Refuses e room whole
fails_next Oom j room whole x rest ws sign is h r = tt
fails_next Absent j room whole x rest ws sign is h r =
    let a : Parsed = record { expr = x; signs = h.signs; rest = rest } in
    sym h.left ∙ after_sign j a sign ∙ ap (λ o. o >>= joined_to (join j) a) (ap (list_at j) (sym is) ∙ fails_first Absent j room ws r)
fails_next TooDeep j room whole x rest ws sign is h r =
    let a : Parsed = record { expr = x; signs = h.signs; rest = rest } in
    λ w q. next_deep j room a (list_at j ws) (fails_first TooDeep j room ws r) w
    (ap (λ o. o >>= joined_to (join j) a) (ap (list_at j) is) ∙ sym (after_sign j a sign) ∙ h.left ∙ q)
