-- The least model of a question's clauses is its least case.
use Rattle.std.proofs.Common.{◌≡◌, ℕ, ◌==◌, ◌<◌, zero, suc, Bool, true, false, not, ◌&&◌, ◌||◌, List, [], ◌∷◌, length, Option, None, Some, is_some, refl, ap, sym, ◌∙◌, arith}
use Rattle.std.specs.Prelude.{slice_get, slice_index_or}
use Rattle.std.specs.List.{Contains, list_any}
use Rattle.std.proofs.lemmas.Bool.{false≢true}
use Rattle.std.proofs.lemmas.Bool.Decides.{nat_tests}
use Rattle.std.proofs.lemmas.List.Elements.{Contains-get_or}
use Rattle.ut_logic.specs.declared.item.Item.{Item}
use Rattle.ut_logic.specs.declared.item.Item.TheVariants as item
use Rattle.ut_logic.specs.declared.literals.Lit.{Lit}
use Rattle.ut_logic.specs.declared.node.Node.{Node}
use Rattle.ut_logic.specs.Assign.{is_in}
use Rattle.ut_logic.specs.Item.{item_eq}
use Rattle.ut_logic.specs.ItemIdentity.{item_eq-Decides}
use Rattle.cpp_blocks.specs.Alike.{free_lines}
use Rattle.cpp_blocks.specs.Mentions.{names_of}
use Rattle.cpp_blocks.specs.Turns.{pieces_of}
use Rattle.kconf_constr.specs.Scope.{number_among}
use Rattle.kconf_constr.specs.Stands.{undeclared_truth}
use Rattle.sat_log.specs.LeastModel.{IsLeastModel}
use Rattle.ut_case.specs.declared.question.Family.{Family}
use Rattle.ut_case.specs.declared.question.Family.TheVariants as family
use Rattle.ut_case.specs.Cases.{Case, IsCaseOf}
use Rattle.ut_case.specs.ClauseForms.{AreClauses}
use Rattle.ut_case.specs.Environments.{IsEnvironment, has_macro, is_of_sources, starts_free}
use Rattle.ut_case.specs.Items.{item_truth, macro_at}
use Rattle.ut_case.specs.Laws.{CasesHaveTruths, ClausesStandOver, IsLeastMet, LeastModelsAreCases, LeastModelsAreLeast, LeastTruthsAreLeast, PartsComplete, Reads, SameFree, SameOn}
use Rattle.ut_case.specs.Least.{IsAtMost, IsFalseOff, IsLeast, has_undeclared}
use Rattle.ut_case.specs.Names.{config_name}
use Rattle.ut_case.specs.Numbering.{shared}
use Rattle.ut_case.specs.Posed.{IsAskable}
use Rattle.ut_case.specs.Problem.{Basis, OfTree, OfRules, Problem, directives_at}
use Rattle.ut_case.specs.Questions.{Question, meets}
use Rattle.ut_case.specs.StartFormulas.{undeclared_in}
use Rattle.case_laws.specs.Listed.{QuestionsAreKnown, QuestionsAreListed}
use Rattle.case_laws.proofs.Basics.{and_both, and_first, and_second}
use Rattle.case_laws.proofs.Cleared.{truth_written}
use Rattle.case_laws.proofs.FreeTruths.{free_defined, free_same, is_of_environment}
use Rattle.case_laws.proofs.ItemKinds.{IsFreeStart, IsTruthStart, ItemIs}
use Rattle.case_laws.proofs.ItemsOf.{ListLaws, item_is}
use Rattle.case_laws.proofs.LeastValues.{value_of, value_off, value_on, value_reads}
use Rattle.case_laws.proofs.MadeCases.{IsCaseFor, rule_case, tree_case}
use Rattle.case_laws.proofs.OneList.{any_in, in_contains}
use Rattle.case_laws.proofs.Over.{wide}
use Rattle.case_laws.proofs.TreeNodes.{PartLaws}

-- ---- tests

and_off : (a b : Bool) → b ≡ false → (a && b) ≡ false
and_off true b h = h
and_off false b h = refl

has_place : {X : Type 0} (xs : List X) (k : ℕ) → k < length xs → is_some (slice_get xs k) ≡ true
has_place [] k h = absurd (omega (arith, h))
has_place (x ∷ xs) zero h = refl
has_place (x ∷ xs) (suc k) h = has_place xs k (omega (arith, h))

has_line : (ns : List ℕ) (line : ℕ) → Contains ns line → list_any (λ (n : ℕ). n == line) ns ≡ true
has_line [] line h = absurd (omega (arith, h.0, h.1))
has_line (n ∷ ns) line (zero, l, e) = ap (λ (b : Bool). b || list_any (λ (m : ℕ). m == line) ns) (ap (λ (m : ℕ). m == line) e ∙ same line)
  where
    same : (m : ℕ) → (m == m) ≡ true
    same m = grind (arith, nat_tests)
has_line (n ∷ ns) line (suc k, l, e) = or_right (n == line) (list_any (λ (m : ℕ). m == line) ns) (has_line ns line (k, omega arith, e))
  where
    or_right : (a b : Bool) → b ≡ true → (a || b) ≡ true
    or_right true b h = refl
    or_right false b h = h

-- ---- what the environment has

module _ (p : Problem) (q : Question) (nodes : List Node) where
  -- a macro of a written symbol doesn't start free
  not_free : (f : Family) → (f ≡ family.Code → ⊥) → (macro name : List ℕ) → config_name macro ≡ Some name → not (starts_free f macro) ≡ true
  not_free family.Code other macro name e = absurd (other refl)
  not_free family.Kconfig other macro name e = ap (λ (o : Option (List ℕ)). not (not (is_some o))) e
  not_free family.Whole other macro name e = ap (λ (o : Option (List ℕ)). not (not (is_some o))) e

  free_known : (file n : ℕ) → IsFreeStart p q nodes file n → (has_macro p file n && starts_free q.family (macro_at p file n)) ≡ true
  free_known file n h = and_both (has_macro p file n) (starts_free q.family (macro_at p file n)) (has_place (names_of (directives_at p file)) n h.within) h.free

  truth_known : (file n : ℕ) → IsTruthStart p q nodes file n → (has_macro p file n && not (starts_free q.family (macro_at p file n))) ≡ true
  truth_known file n h = and_both (has_macro p file n) (not (starts_free q.family (macro_at p file n))) (has_place (names_of (directives_at p file)) n h.within) (not_free q.family h.asks (macro_at p file n) h.name h.named)

  source_item : (b : Basis) (i : Item) → is_of_environment i ≡ true → ItemIs p q nodes b i → is_of_sources p q.family i ≡ true
  source_item b (item.SymY k) e h = absurd (false≢true e)
  source_item b (item.SymM k) e h = absurd (false≢true e)
  source_item b (item.Undeclared k) e h = absurd (false≢true e)
  source_item b (item.ModeY k) e h = absurd (false≢true e)
  source_item b (item.ModeM k) e h = absurd (false≢true e)
  source_item b (item.Outer k) e h = absurd (false≢true e)
  source_item b (item.Same k j) e h = absurd (false≢true e)
  source_item b (item.Below k j) e h = absurd (false≢true e)
  source_item b (item.StartD file n) e h = free_known file n h
  source_item b (item.StartT file n) e h = free_known file n h
  source_item b (item.Truth file n) e h = truth_known file n h
  source_item b (item.Piece file k) e h = has_place (pieces_of (directives_at p file)) k h
  source_item b (item.Line file line) e h = has_line (free_lines (directives_at p file)) line h
  source_item b (item.Block file k) e h = absurd (false≢true e)
  source_item b (item.StateD file n turn) e h = absurd (false≢true e)
  source_item b (item.StateT file n turn) e h = absurd (false≢true e)

-- ---- the least case

pub record CaseLaws : Type 0 where
  pub lists : ListLaws
  pub parts : PartLaws
  pub complete : PartsComplete
  pub known : QuestionsAreKnown
  pub listed : QuestionsAreListed
  pub over : ClausesStandOver
  pub models : LeastModelsAreLeast
  pub truths : CasesHaveTruths
  pub least : LeastTruthsAreLeast

module _ (laws : CaseLaws) (p : Problem) (q : Question) (items : List Item) (vars : ℕ) (clauses : List (List Lit)) (w : ℕ → Bool) (askable : IsAskable p q) (form : AreClauses p q items vars clauses)
    (model : IsLeastModel vars clauses w) where
  abbrev v : Item → Bool
  v = value_of items w

  abbrev nodes : List Node
  nodes = form.nodes

  reads : Reads items w (value_of items w)
  reads = value_reads items w form.named.ordered

  least_met : IsLeastMet p q form.nodes items (value_of items w)
  least_met = laws.models p q nodes items vars clauses w v (laws.over p q items vars clauses askable form) (wide p q items vars clauses form (laws.listed p q nodes askable form.needs)) model reads

  its_kind : (i : Item) → value_of items w i ≡ true → ItemIs p q form.nodes p.basis i
  its_kind i h = item_is laws.lists p q nodes askable.posed items form.named i (value_on items w i h)

  made : IsCaseFor p q form.nodes (value_of items w)
  made = by p.basis refl
    where
      by : (b : Basis) → p.basis ≡ b → IsCaseFor p q form.nodes (value_of items w)
      by (OfTree t) is = tree_case laws.parts laws.complete p q t askable.posed is nodes form.needs (laws.known p q askable) v least_met.met.facts
      by (OfRules r) is = rule_case p q r askable.posed is nodes v its_kind least_met.met.rules

  abbrev x : Case
  x = made.case

  free : SameFree items (item_truth p q.family made.case) (value_of items w)
  free i m o = free_same p q nodes v x least_met.met.facts made.made i (item_is laws.lists p q nodes askable.posed items form.named i m) o

  same : SameOn items (item_truth p q.family made.case) (value_of items w)
  same = laws.truths p q nodes items v x askable form.needs form.named least_met.met.facts made.belongs free

  first : (meets p q made.case ≡ true) × ((y : Case) → IsCaseOf p q.family y → meets p q y ≡ true → IsAtMost items (item_truth p q.family made.case) (item_truth p q.family y))
  first = laws.least p q nodes items v x askable form.needs form.named least_met made.belongs free

  -- the environment has what the truths have
  env_on : (i : Item) → made.case.environment i ≡ true → (is_of_environment i && value_of items w i) ≡ true
  env_on i h = sym (made.environment i) ∙ h

  is_environment : IsEnvironment p q.family made.case
  is_environment = record {
    known = λ i h. source_item p q nodes p.basis i (and_first (is_of_environment i) (v i) (env_on i h)) (its_kind i (and_second (is_of_environment i) (v i) (env_on i h)));
    defined = λ file n h. let on = and_second true (v (item.StartT file n)) (env_on (item.StartT file n) h) in
        made.environment (item.StartD file n) ∙ free_defined p q nodes v least_met.met.facts file n (its_kind (item.StartT file n) on) on;
    written = λ file n h. truth_written p q x file n askable items (value_on items w (item.Truth file n) (and_second true (v (item.Truth file n)) (env_on (item.Truth file n) h))) h made.belongs first.0 first.1;
  }

  -- off the items all is false
  name_off : (f : Family) (name : List ℕ) → has_undeclared items (number_among p.undeclared name) ≡ false → undeclared_truth (value_of items w) (number_among (undeclared_in (shared p) f) name) ≡ false
  name_off family.Code name h = refl
  name_off family.Kconfig name h = by (number_among p.undeclared name) h
    where
      by : (o : Option ℕ) → has_undeclared items o ≡ false → undeclared_truth (value_of items w) o ≡ false
      by None e = refl
      by (Some k) e = value_off items w (item.Undeclared k) e
  name_off family.Whole name h = refl

  is_off : IsFalseOff p items made.case
  is_off = record {
    environment = λ i h. made.environment i ∙ and_off (is_of_environment i) (v i) (value_off items w i h);
    outers = λ k h. made.made.outers k ∙ value_off items w (item.Outer k) h;
    undeclared = λ name h. made.undeclared name ∙ name_off q.family name h;
  }

  there : (k : ℕ) (d : Item) → k < length items → is_in items (slice_index_or items k d) ≡ true
  there k d lt = any_in (λ y. item_eq y (slice_index_or items k d)) (slice_index_or items k d) (λ y e. (item_eq-Decides y (slice_index_or items k d)).0 e) ((item_eq-Decides (slice_index_or items k d) (slice_index_or items k d)).1 refl) items
      (in_contains items (slice_index_or items k d) (Contains-get_or items k d lt))

  pub least_case : (z : Case) × IsLeast p q z × Reads items w (item_truth p q.family z)
  least_case = (
    x,
    record {
      belongs = made.belongs;
      environment = is_environment;
      met = first.0;
      nodes = form.nodes;
      needs = form.needs;
      items = items;
      named = form.named;
      least = first.1;
      outside = made.outside;
      off = is_off;
    },
    λ k d lt. reads k d lt ∙ sym (same (slice_index_or items k d) (there k d lt)),
  )

pub least_cases : CaseLaws → LeastModelsAreCases
least_cases laws p q items vars clauses w askable form model = least_case laws p q items vars clauses w askable form model
