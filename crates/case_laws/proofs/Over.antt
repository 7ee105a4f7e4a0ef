-- The clauses of a question say the same of truths of its items, where all that it mentions is listed.
use Rattle.std.proofs.Common.{◌≡◌, ℕ, ◌≤◌, Bool, true, List, [], ◌∷◌, ◌++◌, length, refl, sym, subst}
use Rattle.ut_logic.specs.declared.item.Item.{Item}
use Rattle.ut_logic.specs.declared.literals.Lit.{Lit}
use Rattle.ut_logic.specs.declared.formula.Formula.{Formula}
use Rattle.ut_logic.specs.declared.node.Node.{Node}
use Rattle.ut_logic.specs.declared.facts.Fact.{Fact}
use Rattle.ut_logic.specs.Truth.{truth, truths, all_true}
use Rattle.ut_logic.proofs.ItemLemmas.{distinct_in_order}
use Rattle.clausify.specs.Meaning.{AreMet}
use Rattle.clausify.specs.Order.{form_with}
use Rattle.clausify.specs.Over as form
use Rattle.clausify.proofs.BegunLaws.{both_over}
use Rattle.clausify.proofs.FormLaws.{AreAmong, named, in_range, stands_for, facts_among, held_among, wish_among}
use Rattle.clausify.proofs.OverLaws.{stands_over}
use Rattle.ut_case.specs.ClauseForms.{AreClauses}
use Rattle.ut_case.specs.Facts.{rules_for}
use Rattle.ut_case.specs.Laws as law
use Rattle.ut_case.specs.Needs.{needed_facts, wish_of}
use Rattle.ut_case.specs.Problem.{Problem}
use Rattle.ut_case.specs.Questions.{Question}
use Rattle.case_laws.specs.Listed.{AreMentioned}
use Rattle.case_laws.proofs.Basics.{and_both, and_first, and_second}

-- ---- formulas of both lists

module _ (v : Item → Bool) where
  pub all_front : (fs gs : List Formula) → all_true (truths v (fs ++ gs)) ≡ true → all_true (truths v fs) ≡ true
  all_front [] gs h = refl
  all_front (f ∷ fs) gs h = and_both (truth v f) (all_true (truths v fs)) (and_first (truth v f) (all_true (truths v (fs ++ gs))) h) (all_front fs gs (and_second (truth v f) (all_true (truths v (fs ++ gs))) h))

  pub all_back : (fs gs : List Formula) → all_true (truths v (fs ++ gs)) ≡ true → all_true (truths v gs) ≡ true
  all_back [] gs h = h
  all_back (f ∷ fs) gs h = all_back fs gs (and_second (truth v f) (all_true (truths v (fs ++ gs))) h)

  pub all_joined : (fs gs : List Formula) → all_true (truths v fs) ≡ true → all_true (truths v gs) ≡ true → all_true (truths v (fs ++ gs)) ≡ true
  all_joined [] gs h g = g
  all_joined (f ∷ fs) gs h g = and_both (truth v f) (all_true (truths v (fs ++ gs))) (and_first (truth v f) (all_true (truths v fs)) h) (all_joined fs gs (and_second (truth v f) (all_true (truths v fs)) h) g)

-- ---- meeting, in the words of clause forms and of questions

module _ (p : Problem) (q : Question) (nodes : List Node) where
  pub met_here : (v : Item → Bool) → AreMet v (needed_facts p q nodes) (rules_for q.family p.basis ++ wish_of p q) → law.AreMet p q nodes v
  met_here v m = record {
    rules = all_front v (rules_for q.family p.basis) (wish_of p q) m.wish_met;
    facts = m.facts_met;
    wishes = all_back v (rules_for q.family p.basis) (wish_of p q) m.wish_met;
  }

  pub met_there : (v : Item → Bool) → law.AreMet p q nodes v → AreMet v (needed_facts p q nodes) (rules_for q.family p.basis ++ wish_of p q)
  met_there v m = record { facts_met = m.facts; wish_met = all_joined v (rules_for q.family p.basis) (wish_of p q) m.rules m.wishes }

  pub over_here : (items : List Item) (vars : ℕ) (clauses : List (List Lit)) → form.StandsOver items (needed_facts p q nodes) (rules_for q.family p.basis ++ wish_of p q) vars clauses → law.StandsOver p q nodes items vars clauses
  over_here items vars clauses f = record {
    sound = λ w v model reads. met_here v (f.sound w v model reads);
    complete = λ v m. f.complete v (met_there v m);
    one = f.one;
  }

  pub over_there : (items : List Item) (vars : ℕ) (clauses : List (List Lit)) → law.StandsOver p q nodes items vars clauses → form.StandsOver items (needed_facts p q nodes) (rules_for q.family p.basis ++ wish_of p q) vars clauses
  over_there items vars clauses f = record {
    sound = λ w v model reads. met_there v (f.sound w v model reads);
    complete = λ v m. f.complete v (met_here v m);
    one = f.one;
  }

-- ---- the clauses

module _ (p : Problem) (q : Question) (items : List Item) (vars : ℕ) (clauses : List (List Lit)) (c : AreClauses p q items vars clauses) (listed : AreMentioned p q c.nodes) where
  abbrev facts : List Fact
  facts = needed_facts p q c.nodes

  abbrev rules : List Formula
  rules = rules_for q.family p.basis

  abbrev wish : List Formula
  wish = wish_of p q

  -- all that is mentioned is among the items
  pub among : AreAmong items rules facts wish
  among = record {
    of_held = held_among items facts rules wish c.named.exact listed.rules;
    of_facts = facts_among items facts wish c.named.exact listed.facts;
    of_wish = wish_among items facts wish c.named.exact listed.wishes;
  }

  -- there is a variable for each item
  pub wide : length items ≤ vars
  wide = subst (λ (n : ℕ). length items ≤ n) (sym c.count) (named items rules facts wish among)

  stands : form.StandsOver items facts (rules ++ wish) (form_with items rules facts wish).vars clauses
  stands = stands_over items facts (rules ++ wish) (form_with items rules facts wish).vars clauses (stands_for items rules facts wish among clauses c.written)
      (in_range items rules facts wish among clauses c.written) (distinct_in_order items c.named.ordered) among.of_facts (both_over items rules wish among.of_held among.of_wish)

  pub clauses_over : law.StandsOver p q c.nodes items vars clauses
  clauses_over = over_here p q c.nodes items vars clauses (subst (λ (n : ℕ). form.StandsOver items facts (rules ++ wish) n clauses) (sym c.count) stands)
