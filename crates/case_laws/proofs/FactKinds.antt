-- Each fact of a question is one of a tree, of a name of a model text, or of a source that a wish names.
use Rattle.std.proofs.Common.{◌≡◌, ℕ, zero, suc, List, [], ◌∷◌, ◌++◌, refl, sym, subst, ◌⊎◌, inl, inr, arith}
use Rattle.std.specs.List.{Contains, flat_map}
use Rattle.ut_logic.specs.declared.facts.Fact.{Fact}
use Rattle.ut_logic.specs.declared.facts.Rules.{Rules}
use Rattle.kconf_constr.specs.FactsOf as tree
use Rattle.kconf_tree.specs.Shape.{Shape}
use Rattle.ut_case.specs.declared.question.Family.{Family}
use Rattle.ut_case.specs.declared.question.Family.TheVariants as family
use Rattle.ut_case.specs.Facts.{basis_facts, basis_facts_for, facts_for, files_of, name_fact, places, source_facts}
use Rattle.ut_case.specs.Numbering.{shared}
use Rattle.ut_case.specs.Problem.{Basis, OfTree, OfRules, Problem, source_at}
use Rattle.ut_case.specs.Questions.{Question}
use Rattle.ut_case.specs.StartFormulas.{scope_of}
use Rattle.case_laws.proofs.Basics.{later}
use Rattle.case_laws.proofs.Known.{unmap}

-- ---- members of joined lists

pub of_both : {A : Type 0} (xs ys : List A) (x : A) → Contains (xs ++ ys) x → Contains xs x ⊎ Contains ys x
of_both [] ys x h = inr h
of_both (y ∷ xs) ys x (zero, l, e) = inl (0, omega arith, e)
of_both (y ∷ xs) ys x (suc k, l, e) = by (of_both xs ys x (k, omega arith, e))
  where
    by : Contains xs x ⊎ Contains ys x → Contains (y ∷ xs) x ⊎ Contains ys x
    by (inl h) = inl (later y xs x h)
    by (inr h) = inr h

-- what a list of lists has is of one of them
pub record IsPart {A B : Type 0} (f : A → List B) (xs : List A) (y : B) : Type 0 where
  pub from : A
  pub there : Contains xs from
  pub has : Contains (f from) y

pub of_part : {A B : Type 0} (f : A → List B) (xs : List A) (y : B) → Contains (flat_map f xs) y → IsPart f xs y
of_part f [] y h = absurd (omega (arith, h.1))
of_part f (x ∷ xs) y h = by (of_both (f x) (flat_map f xs) y h) (of_part f xs y)
  where
    by : Contains (f x) y ⊎ Contains (flat_map f xs) y → (Contains (flat_map f xs) y → IsPart f xs y) → IsPart f (x ∷ xs) y
    by (inl m) rest = record { from = x; there = (0, omega arith, refl); has = m }
    by (inr m) rest = let r = rest m in record { from = r.from; there = later x xs r.from r.there; has = r.has }

-- ---- the facts of a question

-- a fact of a symbol or a choice
pub record IsOfTree (p : Problem) (f : Family) (fact : Fact) : Type 0 where
  pub shape : Shape
  pub is : p.basis ≡ OfTree shape
  pub asks : f ≡ family.Code → ⊥
  pub there : Contains (tree.facts_of (scope_of (shared p) f shape)) fact

-- the fact of a name of a model text
pub record IsOfName (p : Problem) (f : Family) (fact : Fact) : Type 0 where
  pub rules : Rules
  pub is : p.basis ≡ OfRules rules
  pub asks : f ≡ family.Code → ⊥
  pub number : ℕ
  pub within : Contains (places rules.names) number
  pub same : fact ≡ name_fact number

-- a fact of a source
pub record IsOfSource (p : Problem) (q : Question) (fact : Fact) : Type 0 where
  pub file : ℕ
  pub listed : Contains (files_of q) file
  pub there : Contains (source_facts (shared p) q.family file (source_at p file)) fact

pub data Kind (p : Problem) (q : Question) (fact : Fact) : Type 0 where
  Tree : IsOfTree p q.family fact → Kind p q fact
  Name : IsOfName p q.family fact → Kind p q fact
  Source : IsOfSource p q fact → Kind p q fact

module _ (p : Problem) (q : Question) (fact : Fact) where
  of_basis : (f : Family) → f ≡ q.family → (f ≡ family.Code → ⊥) → (b : Basis) → p.basis ≡ b → Contains (basis_facts (shared p) f b) fact → Kind p q fact
  of_basis f e other (OfTree t) is h = Tree (subst (λ (g : Family). IsOfTree p g fact) e (record { shape = t; is = is; asks = other; there = h }))
  of_basis f e other (OfRules r) is h = let m = unmap name_fact (places r.names) fact h in
      Name (subst (λ (g : Family). IsOfName p g fact) e (record { rules = r; is = is; asks = other; number = m.from; within = m.there; same = sym m.is }))

  of_family : (f : Family) → f ≡ q.family → Contains (basis_facts_for (shared p) f) fact → Kind p q fact
  of_family family.Code e h = absurd (omega (arith, h.1))
  of_family family.Kconfig e h = of_basis family.Kconfig e (λ g. absurd (cc)) p.basis refl h
  of_family family.Whole e h = of_basis family.Whole e (λ g. absurd (cc)) p.basis refl h

  of_sources : Contains (flat_map (λ file. source_facts (shared p) q.family file (source_at p file)) (files_of q)) fact → Kind p q fact
  of_sources h = let r = of_part (λ file. source_facts (shared p) q.family file (source_at p file)) (files_of q) fact h in Source (record { file = r.from; listed = r.there; there = r.has })

  pub kind_of : Contains (facts_for p q) fact → Kind p q fact
  kind_of h = by (of_both (basis_facts_for (shared p) q.family) (flat_map (λ file. source_facts (shared p) q.family file (source_at p file)) (files_of q)) fact h)
    where
      by : Contains (basis_facts_for (shared p) q.family) fact ⊎ Contains (flat_map (λ file. source_facts (shared p) q.family file (source_at p file)) (files_of q)) fact → Kind p q fact
      by (inl m) = of_family q.family refl m
      by (inr m) = of_sources m
