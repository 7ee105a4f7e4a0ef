-- What the answers rest on: the assignment of a trail, and the ends of a run.
use Rattle.std.proofs.Common.{◌≡◌, ◌≢◌, ℕ, suc, ◌+◌, ◌^◌, ◌<◌, Bool, true, false, cond, List, [], ◌∷◌, ◌++◌, length, get_or, inl, inr, refl, sym, ap, ◌∙◌, subst, arith}
use Rattle.std.specs.Prelude.{Contains, ◌↔◌, ◌||◌}
use Rattle.std.proofs.lemmas.Bool.{false≢true, cases_lt, or_cases, eq-eqb, ne_eqb, cases_eq}
use Rattle.std.proofs.lemmas.List.{get_or_default}
use Rattle.std.proofs.lemmas.List.Elements.{Contains-append_left, Contains-push, Contains-push_cases}
use Rattle.ut_logic.specs.declared.item.Item.{Item}
use Rattle.ut_logic.specs.declared.literals.Lit.{Lit}
use Rattle.ut_logic.specs.Assign.{is_in}
use Rattle.ut_logic.specs.Item.{item_eq}
use Rattle.ut_logic.specs.ItemIdentity.{item_eq-Decides}
use Rattle.ut_logic.specs.Clauses.{literal, AreWithin}
use Rattle.ut_logic.specs.Variables.{AreDistinct}
use Rattle.log_check.proofs.Resolvents.{contains_head, contains_tail, contains_cases, contains_nothing}
use Rattle.sat_log.specs.declared.marks.Mark.{Mark}
use Rattle.sat_log.specs.Moves.{State, set_literals, IsSet, Moves}
use Rattle.sat_log.specs.Runs.{IsReached, IsAtModel, IsAtRefutation}
use Rattle.sat_log.specs.LeastModel.{IsHeldBy, value_in}
use Rattle.sat_log.specs.Inner.{AreApart}
use Rattle.sat_log.specs.Choosing.{AreChosen, chosen_with}
use Rattle.sat_log.specs.Answers.{IsFound}
use Rattle.sat_log.proofs.RunLemmas.{kept_run}
use Rattle.sat_log.proofs.Settled.{mark_of}
use Rattle.sat_log.proofs.Least.{least_at_model}
use Rattle.sat_log.proofs.Bound.{never_spent}

lit_is : (l : Lit) (x : ℕ) (s : Bool) → l.var ≡ x → l.positive ≡ s → l ≡ literal x s
lit_is l x s e f = rw (← e, ← f) refl

or_right : (a b : Bool) → b ≡ true → (a || b) ≡ true
or_right true b e = refl
or_right false b e = e

-- one move more
pub reached_more : (n : ℕ) (clauses : List (List Lit)) (s t : State) → IsReached n clauses s → Moves n clauses s t → IsReached n clauses t
reached_more n clauses s t (k, run) m = (suc k, (s, run, m))

-- the values hold each set literal
value_here : (m : Mark) (ms : List Mark) (x : ℕ) → m.lit.var ≡ x → value_in (m ∷ ms) x ≡ m.lit.positive
value_here m ms x e = ap (λ b. cond b m.lit.positive (value_in ms x)) (eq-eqb m.lit.var x e)

value_later : (m : Mark) (ms : List Mark) (x : ℕ) → m.lit.var ≢ x → value_in (m ∷ ms) x ≡ value_in ms x
value_later m ms x n = ap (λ b. cond b m.lit.positive (value_in ms x)) (ne_eqb m.lit.var x n)

pub held : (ms : List Mark) → AreApart ms → IsHeldBy ms (value_in ms)
held [] a l i = absurd (contains_nothing l i)
held (m ∷ ms) a l i = elim (contains_cases m.lit (set_literals ms) l i) [
  | inl e ↦ value_here m ms l.var (ap (λ (t : Lit). t.var) e) ∙ ap (λ (t : Lit). t.positive) e
  | inr q ↦
      let k = mark_of ms l q in
      value_later m ms l.var (λ e. a.0 k.0 k.1 (e ∙ sym (ap (λ (t : Lit). t.var) k.2))) ∙ held ms a.1 l q
]

-- a variable with the value true is set
pub true_is_set : (ms : List Mark) (x : ℕ) → value_in ms x ≡ true → IsSet ms (literal x true)
true_is_set [] x e = absurd (false≢true e)
true_is_set (m ∷ ms) x e = elim (cases_eq m.lit.var x) [
  | inl same ↦ subst (IsSet (m ∷ ms)) (lit_is m.lit x true same (sym (value_here m ms x same) ∙ e)) (contains_head m.lit (set_literals ms))
  | inr other ↦ contains_tail m.lit (set_literals ms) (literal x true) (true_is_set ms x (sym (value_later m ms x other) ∙ e))
]

same_value : (a b : Bool) → (a ≡ true) ↔ (b ≡ true) → a ≡ b
same_value true true f = refl
same_value true false f = sym (f.0 refl)
same_value false true f = f.1 refl
same_value false false f = refl

-- the list has the item
pub in_contains : (xs : List Item) (x : Item) → (is_in xs x ≡ true) ↔ Contains xs x
in_contains [] x = (λ e. absurd (false≢true e), λ i. absurd (contains_nothing x i))
in_contains (y ∷ ys) x = (
  λ e. elim (or_cases (item_eq y x) (is_in ys x) e) [
    | inl f ↦ subst (Contains (y ∷ ys)) ((item_eq-Decides y x).0 f) (contains_head y ys)
    | inr f ↦ contains_tail y ys x ((in_contains ys x).0 f)
  ],
  λ i. elim (contains_cases y ys x i) [
    | inl e ↦ ap (λ b. b || is_in ys x) ((item_eq-Decides y x).1 e)
    | inr j ↦ or_right (item_eq y x) (is_in ys x) ((in_contains ys x).1 j)
  ],
)

-- items at two places differ
apart_items : (items : List Item) (j k : ℕ) (d e : Item) → AreDistinct items → j < k → k < length items → get_or items j d ≢ get_or items k e
apart_items items j k d e a lt h = rw (get_or_default items k e d h) (a j k d lt h)

pub chosen_none : (items : List Item) (marks : List Mark) → AreChosen items marks 0 []
chosen_none items marks = record {
  given = λ j d h. absurd (omega arith);
  only = λ x i. absurd (contains_nothing x i);
}

-- the next item is chosen, or not
pub chosen_more : (items : List Item) (marks : List Mark) (k : ℕ) (chosen : List Item) (d : Item) (wanted : Bool) → AreDistinct items → k < length items → (wanted ≡ true) ↔ IsSet marks (literal (k + 1) true) → AreChosen items marks k chosen → AreChosen items marks (k + 1) (chosen_with chosen (get_or items k d) wanted)
chosen_more items marks k chosen d true a h says c = record {
  given = λ j e lt. elim (cases_lt j k) [
    | inl before ↦ (
      λ i. elim (Contains-push_cases chosen (get_or items k d) (get_or items j e) i) [
        | inl q ↦ (c.given j e before).0 q
        | inr q ↦ absurd (apart_items items j k e d a before h (sym q))
      ],
      λ s. Contains-append_left chosen (get_or items k d ∷ []) (get_or items j e) ((c.given j e before).1 s),
    )
    | inr here ↦
        let at : k ≡ j = omega arith in
        let same : get_or items k d ≡ get_or items j e = get_or_default items k d e h ∙ ap (λ t. get_or items t e) at in (
          λ i. subst (λ t. IsSet marks (literal (t + 1) true)) at (says.0 refl),
          λ s. subst (Contains (chosen ++ get_or items k d ∷ [])) same (Contains-push chosen (get_or items k d)),
        )
  ];
  only = λ x i. elim (Contains-push_cases chosen (get_or items k d) x i) [
    | inl q ↦ let o = c.only x q in (o.0, omega (arith, o.1), o.2)
    | inr q ↦ (k, omega arith, λ e. sym (get_or_default items k d e h) ∙ q)
  ];
}
chosen_more items marks k chosen d false a h says c = record {
  given = λ j e lt. elim (cases_lt j k) [
    | inl before ↦ c.given j e before
    | inr here ↦
        let at : k ≡ j = omega arith in (
          λ i. let o = c.only (get_or items j e) i in absurd (apart_items items o.0 j e e a (omega (arith, o.1)) (omega arith) (o.2 e)),
          λ s. absurd (false≢true (says.1 (subst (λ t. IsSet marks (literal (t + 1) true)) (sym at) s))),
        )
  ];
  only = λ x i. let o = c.only x i in (o.0, omega (arith, o.1), o.2);
}

-- a trail that is at a model holds the least one, and its true items are the assignment
pub found_answer : (n : ℕ) (items : List Item) (clauses : List (List Lit)) (s : State) (chosen a : List Item) → AreWithin n clauses → IsReached n clauses s → IsAtModel n clauses s → AreChosen items s.marks (length items) chosen → ((item : Item) → is_in a item ≡ is_in chosen item) → IsFound n items clauses s a
found_answer n items clauses s chosen a w reached m c means =
    let apart : AreApart s.marks = (kept_run n clauses reached.0 s w reached.1).apart in
    record {
      model = m;
      least = least_at_model n clauses s (value_in s.marks) w reached m (held s.marks apart);
      given = λ k d h. means (get_or items k d) ∙ same_value (is_in chosen (get_or items k d)) (value_in s.marks (k + 1)) (
        λ e. held s.marks apart (literal (k + 1) true) ((c.given k d h).0 ((in_contains chosen (get_or items k d)).0 e)),
        λ e. (in_contains chosen (get_or items k d)).1 ((c.given k d h).1 (true_is_set s.marks (k + 1) e)),
      );
      only = λ item e.
          let o = c.only item ((in_contains chosen item).0 (sym (means item) ∙ e)) in
          (o.0, o.1, o.2 item);
    }

-- a run that is at neither end after so many steps is spent there
pub spent_below : (n : ℕ) (clauses : List (List Lit)) (budget : ℕ) (s : State) → AreWithin n clauses → IsReached n clauses s → s.steps ≡ budget → ¬ IsAtModel n clauses s → ¬ IsAtRefutation clauses s → budget < 2 ^ (n + 1)
spent_below n clauses budget s w reached steps no_model no_refutation = elim (cases_lt budget (2 ^ (n + 1))) [
  | inl low ↦ low
  | inr high ↦ absurd (never_spent n budget clauses w high (record {
    state = s;
    reached = reached;
    steps = steps;
    no_model = no_model;
    no_refutation = no_refutation;
  }))
]
