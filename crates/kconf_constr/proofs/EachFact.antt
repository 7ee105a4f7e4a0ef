-- What holds of each fact of a tree.
use Rattle.std.proofs.Common.{ℕ, ◌<◌, List, map, length, get_or, All, sym, subst, ◌∙◌, zero-add}
use Rattle.std.specs.List.{range_with_len, AllByRecursion}
use Rattle.std.proofs.lemmas.List.FromFn.{get_or-range_with_len, length-range_with_len}
use Rattle.std.proofs.lemmas.List.Elements.{All-append, All-map, All-get_or, All-from_get_or, All-from_recursion, recursion_from_All}
use Rattle.ut_logic.specs.declared.facts.Fact.{Fact}
use Rattle.kconf_constr.specs.Scope.{Scope}
use Rattle.kconf_constr.specs.FactsOf.{facts_of, symbol_fact, choice_fact}
use Rattle.kconf_constr.proofs.Lists.{front, back, unmapped}

ranged : (n : ℕ) (Q : ℕ → Type 0) → ((k : ℕ) → k < n → Q k) → All Q (range_with_len 0 n)
ranged n Q f = All-from_get_or Q (range_with_len 0 n) 0 (λ i h. at i (subst (λ m. i < m) (length-range_with_len 0 n) h))
  where
    at : (i : ℕ) → i < n → Q (get_or (range_with_len 0 n) i 0)
    at i h = subst Q (sym (get_or-range_with_len 0 n i 0 h ∙ zero-add i)) (f i h)

at_number : (n : ℕ) (Q : ℕ → Type 0) → All Q (range_with_len 0 n) → (k : ℕ) → k < n → Q k
at_number n Q h k lt = subst Q (get_or-range_with_len 0 n k 0 lt ∙ zero-add k) (All-get_or Q (range_with_len 0 n) k 0 (subst (λ m. k < m) (sym (length-range_with_len 0 n)) lt) h)

mapped_at : {X : Type 0} (P : X → Type 0) (f : ℕ → X) (n : ℕ) → AllByRecursion P (map f (range_with_len 0 n)) → (k : ℕ) → k < n → P (f k)
mapped_at P f n h = at_number n (λ k. P (f k)) (All-from_recursion (λ k. P (f k)) (range_with_len 0 n) (unmapped P f (range_with_len 0 n) h))

module _ (s : Scope) where
  -- the facts of symbols, and those of choices
  abbrev symbol_facts : List Fact
  symbol_facts = map (symbol_fact s) (range_with_len 0 (length s.shape.symbols))

  abbrev choice_facts : List Fact
  choice_facts = map (choice_fact s) (range_with_len 0 (length s.shape.choices))

  pub each_fact : (P : Fact → Type 0) → ((k : ℕ) → k < length s.shape.symbols → P (symbol_fact s k)) → ((i : ℕ) → i < length s.shape.choices → P (choice_fact s i)) → All P (facts_of s)
  each_fact P f g = All-append P symbol_facts choice_facts
      (All-map P (symbol_fact s) (range_with_len 0 (length s.shape.symbols)) (ranged (length s.shape.symbols) (λ k. P (symbol_fact s k)) f))
      (All-map P (choice_fact s) (range_with_len 0 (length s.shape.choices)) (ranged (length s.shape.choices) (λ i. P (choice_fact s i)) g))

  pub of_symbol : (P : Fact → Type 0) → All P (facts_of s) → (k : ℕ) → k < length s.shape.symbols → P (symbol_fact s k)
  of_symbol P h = mapped_at P (symbol_fact s) (length s.shape.symbols) (front P symbol_facts choice_facts (recursion_from_All P (facts_of s) h))

  pub of_choice : (P : Fact → Type 0) → All P (facts_of s) → (i : ℕ) → i < length s.shape.choices → P (choice_fact s i)
  of_choice P h = mapped_at P (choice_fact s) (length s.shape.choices) (back P symbol_facts choice_facts (recursion_from_All P (facts_of s) h))
