-- The members of several lists of conditions.
use Rattle.std.proofs.Common.{◌≡◌, ◌<◌, ◌+◌, ℕ, List, [], ◌∷◌, ◌++◌, length, drop, get_or, append_assoc, refl, ap, sym, ◌∙◌}
use Rattle.std.proofs.lemmas.List.{at_drop_more}
use Rattle.kconf_entries.specs.declared.expr.Expr.{Expr}
use Rattle.kconf_entries.specs.Joined.{members_of, members_of_all}
use Rattle.kconf_progress.specs.declared.openers.OpenLine.{OpenLine}

-- the members of two lists of conditions
pub members_append : (xs ys : List Expr) → members_of_all (xs ++ ys) ≡ members_of_all xs ++ members_of_all ys
members_append [] ys = refl
members_append (x ∷ xs) ys = ap (λ zs. members_of x ++ zs) (members_append xs ys) ∙ sym (append_assoc (members_of x) (members_of_all xs) (members_of_all ys))

-- the members of a place, and with those of `visible if` lines
pub place_visible : (xs ys zs : List Expr) → members_of_all ((xs ++ ys) ++ zs) ≡ (members_of_all xs ++ members_of_all ys) ++ members_of_all zs
place_visible xs ys zs = members_append (xs ++ ys) zs ∙ ap (λ l. l ++ members_of_all zs) (members_append xs ys)

-- one more enclosing line, whose conditions are added
pub one_more : (all : List OpenLine → List Expr) (own : OpenLine → List Expr) (a b w : List Expr) (os : List OpenLine) (i : ℕ) (o : OpenLine)
    → ((x : OpenLine) (xs : List OpenLine) → all (x ∷ xs) ≡ own x ++ all xs) → i < length os → o ≡ get_or os i o → b ≡ a ++ members_of_all (own o)
    → a ++ members_of_all (all (drop i os)) ≡ w → b ++ members_of_all (all (drop (i + 1) os)) ≡ w
one_more all own a b w os i o step h is add same =
    let rest = drop (i + 1) os in
    let here : members_of_all (all (drop i os)) ≡ members_of_all (own o) ++ members_of_all (all rest) =
    at_drop_more (λ x. members_of_all (all x)) os i o h ∙ ap (λ x. members_of_all (all (x ∷ rest))) (sym is)
    ∙ ap members_of_all (step o rest) ∙ members_append (own o) (all rest) in
    ap (λ x. x ++ members_of_all (all rest)) add
    ∙ append_assoc a (members_of_all (own o)) (members_of_all (all rest))
    ∙ ap (λ x. a ++ x) (sym here) ∙ same
