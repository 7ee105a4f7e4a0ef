-- What makes the clauses true makes each right line true, so a refuted list has no model.
use Rattle.std.proofs.Common.{◌≡◌, ℕ, zero, suc, ◌-◌, ◌≤◌, Bool, List, [], ◌∷◌, ◌++◌, length, get_or, take, inl, inr, sym, ap, ◌∙◌, subst, arith, add-one}
use Rattle.std.specs.Prelude.{Contains}
use Rattle.std.proofs.lemmas.List.{take_more, append-nil, map-append, append_assoc}
use Rattle.std.proofs.lemmas.List.Elements.{Contains-push_cases}
use Rattle.ut_logic.specs.declared.literals.Lit.{Lit}
use Rattle.log_check.specs.declared.derivations.PivotOf.{PivotOf}
use Rattle.log_check.specs.declared.derivations.Chain.{Chain}
use Rattle.log_check.specs.declared.derivations.DerivationLine.{DerivationLine}
use Rattle.ut_logic.specs.Clauses.{Satisfies, IsModel, HasNoModel}
use Rattle.log_check.specs.Derivations.{ResolvesTo, ChainGives, results, AreRight, Refutes}
use Rattle.log_check.proofs.Resolvents.{resolvent_sound, contains_nothing}

from_sound : (v : ℕ → Bool) (known : List (List Lit)) (acc : List Lit) (ps : List PivotOf) (r : List Lit) → IsModel v known → Satisfies v acc → ResolvesTo known acc ps r → Satisfies v r
from_sound v known acc [] r m s g = subst (Satisfies v) g s
from_sound v known acc (p ∷ ps) r m s (c, mid, n, res, g) =
    let there : Contains known c = (p.clause - 1, omega arith, n.2) in
    from_sound v known mid ps r m (resolvent_sound v acc c p.pivot mid res s (m c there)) g

-- what makes the known clauses true makes a chain's result true
pub gives_sound : (v : ℕ → Bool) (known : List (List Lit)) (chain : Chain) (r : List Lit) → IsModel v known → ChainGives known chain r → Satisfies v r
gives_sound v known chain r m (c, n, g) =
    let there : Contains known c = (chain.first - 1, omega arith, n.2) in
    from_sound v known c chain.pairs r m (m c there) g

pub model_push : (v : ℕ → Bool) (known : List (List Lit)) (c : List Lit) → IsModel v known → Satisfies v c → IsModel v (known ++ c ∷ [])
model_push v known c m s e h = elim (Contains-push_cases known c e h) [ inl q ↦ m e q | inr q ↦ subst (Satisfies v) q s ]

-- what makes the clauses true makes the results of right lines true
pub lines_sound : (v : ℕ → Bool) (clauses : List (List Lit)) (lines : List DerivationLine) (d : DerivationLine) (n : ℕ) → n ≤ length lines → AreRight clauses lines n → IsModel v clauses → IsModel v (clauses ++ results (take n lines))
lines_sound v clauses lines d zero h r m = rw append-nil m
lines_sound v clauses lines d (suc n) h r m =
    let before : IsModel v (clauses ++ results (take n lines)) = lines_sound v clauses lines d n (omega arith) (λ k e i. r k e (omega arith)) m in
    let line : DerivationLine = get_or lines n d in
    let here : Satisfies v line.result = gives_sound v _ line.chain line.result before (r n d (omega arith)) in
    let more : take (suc n) lines ≡ take n lines ++ line ∷ [] = subst (λ t. take t lines ≡ take n lines ++ line ∷ []) (add-one n) (take_more lines n d (omega arith)) in
    let all : clauses ++ results (take (suc n) lines) ≡ (clauses ++ results (take n lines)) ++ line.result ∷ [] =
    ap (λ t. clauses ++ results t) more ∙ ap (λ t. clauses ++ t) (map-append (λ (x : DerivationLine). x.result) (take n lines) (line ∷ [])) ∙ sym (append_assoc clauses (results (take n lines)) (line.result ∷ [])) in
    subst (IsModel v) (sym all) (model_push v _ line.result before here)

pub refuted_no_model : (clauses : List (List Lit)) (lines : List DerivationLine) → Refutes clauses lines → HasNoModel clauses
refuted_no_model clauses [] r v m = omega (arith, r.some)
refuted_no_model clauses (x ∷ xs) r v m =
    let last : ℕ = length xs in
    let known = lines_sound v clauses (x ∷ xs) x last (omega arith) (λ k e i. r.right k e (omega arith)) m in
    let s : Satisfies v (get_or (x ∷ xs) last x).result = gives_sound v (clauses ++ results (take last (x ∷ xs))) (get_or (x ∷ xs) last x).chain (get_or (x ∷ xs) last x).result known (r.right last x (omega arith)) in
    let at : suc last - 1 ≡ last = omega arith in
    let empty : (get_or (x ∷ xs) last x).result ≡ [] = subst (λ t. (get_or (x ∷ xs) t x).result ≡ []) at (r.empty x) in
    contains_nothing s.0 (subst (λ t. Contains t s.0) empty s.1)
