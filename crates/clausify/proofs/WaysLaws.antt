-- The literal of a formula has its truth, and what a formula that is held adds can be met just where it is true.
use Rattle.std.proofs.Common.{◌≡◌, ℕ, ◌≤◌, ◌<◌, Bool, true, false, not, ◌&&◌, ◌||◌, List, [], ◌∷◌, ◌++◌, map, refl, sym, ap, subst, ◌∙◌, arith}
use Rattle.std.proofs.lemmas.Bool.{false≢true}
use Rattle.std.proofs.lemmas.Cmp.{eq_by_cmp_equiv}
use Rattle.std.proofs.lemmas.List.Folds.{list_any-append}
use Rattle.ut_logic.specs.declared.item.Item.{Item}
use Rattle.ut_logic.specs.declared.literals.Lit.{Lit}
use Rattle.ut_logic.specs.declared.formula.Formula.{Formula}
use Rattle.ut_logic.specs.declared.formula.Formula.TheOpen.{Formula-F}
use Rattle.ut_logic.specs.declared.formula.Formula.TheViews.{roll-Formula}
use Rattle.ut_logic.specs.declared.formula.Formula.TheFolds.{fold-roll-Formula, map-Formula, ind-Formula}
use Rattle.ut_logic.specs.Assign.{is_in}
use Rattle.ut_logic.specs.Item.{item_eq, item_total}
use Rattle.ut_logic.specs.Clauses.{value_of}
use Rattle.ut_logic.specs.Truth.{truth, truth_step, all_true, any_true, mentioned, mention_step, together}
use Rattle.clausify.specs.Form.{Form}
use Rattle.clausify.specs.ClauseForm.{HaveVariables, Ways, ways, ways_step, define_all, define_any, negate_first, each_in_turn, in_turn, asserted, asserted_any}
use Rattle.clausify.specs.Meaning.{Agree}
use Rattle.clausify.proofs.Meets.{LitWithin, LitsWithin, lits_true}
use Rattle.clausify.proofs.Grows.{Grows, stays, then_grows, weaker}
use Rattle.clausify.proofs.Define.{value_of-negated, defines_all, defines_any}
use Rattle.clausify.proofs.Held.{Held, held_none, then_held, held_as, held_after}

-- a literal with the truth t is made
pub record Makes (s : Form) (r : Lit × Form) (t : (ℕ → Bool) → Bool) : Type 0 where
  pub grows : Grows s r.1 (λ w. value_of w r.0 ≡ t w)
  pub within : LitWithin r.1.vars r.0

-- literals with the truths t are made
pub record MakesEach (s : Form) (r : List Lit × Form) (t : (ℕ → Bool) → List Bool) : Type 0 where
  pub grows : Grows s r.1 (λ w. lits_true w r.0 ≡ t w)
  pub within : LitsWithin r.1.vars r.0

makes_all : (s : Form) (r : List Lit × Form) (t : (ℕ → Bool) → List Bool) → MakesEach s r t → Makes s (define_all r) (λ w. all_true (t w))
makes_all s r t m = record {
  grows = weaker s _ _ _ (λ w p. p.1 ∙ ap all_true p.0) (then_grows s r.1 _ _ _ m.grows (defines_all r.1 r.0 m.within));
  within = (omega arith, omega arith);
}

makes_any : (s : Form) (r : List Lit × Form) (t : (ℕ → Bool) → List Bool) → MakesEach s r t → Makes s (define_any r) (λ w. any_true (t w))
makes_any s r t m = record {
  grows = weaker s _ _ _ (λ w p. p.1 ∙ ap any_true p.0) (then_grows s r.1 _ _ _ m.grows (defines_any r.1 r.0 m.within));
  within = (omega arith, omega arith);
}

makes_neg : (s : Form) (r : Lit × Form) (t : (ℕ → Bool) → Bool) → Makes s r t → Makes s (negate_first r) (λ w. not (t w))
makes_neg s r t m = record {
  grows = weaker s r.1 (λ w. value_of w r.0 ≡ t w) _ (λ w p. value_of-negated w r.0 ∙ ap not p) m.grows;
  within = m.within;
}

pub or_false : (b : Bool) → b ≡ true → (b || false) ≡ true
or_false b h = ap (λ c. c || false) h

pub or_only : (b : Bool) → (b || false) ≡ true → b ≡ true
or_only true h = refl
or_only false h = h

-- a literal that is held, and literals of which some one is held
pub holds_literal : (s : Form) (r : Lit × Form) (t : (ℕ → Bool) → Bool) → ((w u : ℕ → Bool) → Agree s.vars w u → t w ≡ t u) → Makes s r t → Held s (asserted r) (λ w. t w ≡ true)
holds_literal s r t reads m = held_after s r.1 ((r.0 ∷ []) ∷ []) (λ w. value_of w r.0 ≡ t w) (λ w. t w ≡ true) m.grows ((m.within, tt), tt)
    (λ w p k. sym p ∙ or_only (value_of w r.0) k.0) (λ w p q. (or_false (value_of w r.0) (p ∙ q), tt)) (λ w u a q. sym (reads w u a) ∙ q)

pub holds_any : (s : Form) (r : List Lit × Form) (t : (ℕ → Bool) → List Bool) → ((w u : ℕ → Bool) → Agree s.vars w u → t w ≡ t u) → MakesEach s r t → Held s (asserted_any r) (λ w. any_true (t w) ≡ true)
holds_any s r t reads m = held_after s r.1 (r.0 ∷ []) (λ w. lits_true w r.0 ≡ t w) (λ w. any_true (t w) ≡ true) m.grows (m.within, tt)
    (λ w p k. ap any_true (sym p) ∙ k.0) (λ w p q. (ap any_true p ∙ q, tt)) (λ w u a q. ap any_true (sym (reads w u a)) ∙ q)

-- both ways of a formula with the truth t, over forms of at least n variables
pub record Works (n : ℕ) (m : Ways) (t : (ℕ → Bool) → Bool) : Type 0 where
  pub literal : (s : Form) → n ≤ s.vars → Makes s (m.literal s) t
  pub held : (s : Form) → n ≤ s.vars → Held s (m.held s) (λ w. t w ≡ true)

second_true : (a b : Bool) → b ≡ true → (a || b) ≡ true
second_true true b h = refl
second_true false b h = h

pub have_front : (at : Item → ℕ) (xs ys : List Item) → HaveVariables at (xs ++ ys) → HaveVariables at xs
have_front at xs ys h i g = h i (list_any-append (λ x. item_eq x i) xs ys ∙ ap (λ b. b || is_in ys i) g)

pub have_back : (at : Item → ℕ) (xs ys : List Item) → HaveVariables at (xs ++ ys) → HaveVariables at ys
have_back at xs ys h i g = h i (list_any-append (λ x. item_eq x i) xs ys ∙ second_true (is_in xs i) (is_in ys i) g)

pub and_first : (a b : Bool) → (a && b) ≡ true → a ≡ true
and_first true b h = refl
and_first false b h = h

pub and_second : (a b : Bool) → (a && b) ≡ true → b ≡ true
and_second true b h = h
and_second false b h = absurd (false≢true h)

pub and_both : (a b : Bool) → a ≡ true → b ≡ true → (a && b) ≡ true
and_both a b h g = rw h g

module _ (at : Item → ℕ) (n : ℕ) (known : (i : Item) → at i ≤ n) where
  abbrev pub means : (ℕ → Bool) → Formula → Bool
  means w f = truth (λ i. w (at i)) f

  -- what agrees on the variables of items sees the same truths of them
  pub same_items : (w u : ℕ → Bool) → Agree n w u → ◌≡◌ {A = Item → Bool} (λ i. w (at i)) (λ i. u (at i))
  same_items w u a j i = a (at i) (known i) j

  fewer : (m : ℕ) (w u : ℕ → Bool) → n ≤ m → Agree m w u → Agree n w u
  fewer m w u h a x k = a x (omega (arith, h, k))

  pub means_alike : (m : ℕ) (w u : ℕ → Bool) (f : Formula) → n ≤ m → Agree m w u → means w f ≡ means u f
  means_alike m w u f h a = ap (λ v. truth v f) (same_items w u (fewer m w u h a))

  pub all_alike : (m : ℕ) (w u : ℕ → Bool) (fs : List Formula) → n ≤ m → Agree m w u → map (means w) fs ≡ map (means u) fs
  all_alike m w u fs h a = ap (λ v. map (truth v) fs) (same_items w u (fewer m w u h a))

  abbrev Each : Type 0
  Each = (f : Formula) × (HaveVariables at (mentioned f) → Works n (ways at f) (λ w. truth (λ i. w (at i)) f))

  abbrev of : List Each → List Formula
  of es = map (λ e. e.0) es

  each_right : (es : List Each) (s : Form) → n ≤ s.vars → HaveVariables at (together (map mentioned (of es))) → MakesEach s (each_in_turn (map (λ m. m.literal) (map (ways at) (of es))) s) (λ w. map (means w) (of es))
  each_right [] s h v = record { grows = stays s _ (λ w. refl); within = tt }
  each_right (e ∷ es) s h v =
      let here = have_front at (mentioned e.0) (together (map mentioned (of es))) v in
      let one = (e.1 here).literal s h in
      let t = ((ways at e.0).literal s).1 in
      let more = each_right es t (omega (arith, one.grows.upward, h)) (have_back at (mentioned e.0) (together (map mentioned (of es))) v) in
      record {
        grows = weaker s _ _ _ (λ w p. rw (p.0, p.1) refl) (then_grows s t _ _ _ one.grows more.grows);
        within = ((one.within.0, omega (arith, one.within.1, more.grows.upward)), more.within);
      }

  each_held : (es : List Each) (s : Form) → n ≤ s.vars → HaveVariables at (together (map mentioned (of es))) → Held s (in_turn (map (λ m. m.held) (map (ways at) (of es))) s) (λ w. all_true (map (means w) (of es)) ≡ true)
  each_held [] s h v = held_as s s (λ w. Unit {0}) _ (λ w p. refl) (λ w q. tt) (held_none s)
  each_held (e ∷ es) s h v =
      let here = have_front at (mentioned e.0) (together (map mentioned (of es))) v in
      let one = (e.1 here).held s h in
      let t = (ways at e.0).held s in
      let more = each_held es t (omega (arith, one.upward, h)) (have_back at (mentioned e.0) (together (map mentioned (of es))) v) in
      held_as s _ _ _ (λ w p. and_both (means w e.0) (all_true (map (means w) (of es))) p.0 p.1)
      (λ w q. (and_first (means w e.0) (all_true (map (means w) (of es))) q, and_second (means w e.0) (all_true (map (means w) (of es))) q))
      (then_held s t _ (λ w. means w e.0 ≡ true) (λ w. all_true (map (means w) (of es)) ≡ true) (λ w u a q. ap all_true (sym (all_alike s.vars w u (of es) h a)) ∙ q) one more)

  step : (y : Formula-F Each) → HaveVariables at (mention_step (map-Formula Formula (List Item) mentioned (map-Formula Each Formula (λ e. e.0) y)))
      → Works n (ways_step at (map-Formula Formula Ways (ways at) (map-Formula Each Formula (λ e. e.0) y))) (λ w. truth_step (λ i. w (at i)) (map-Formula Formula Bool (means w) (map-Formula Each Formula (λ e. e.0) y)))
  step Formula-F.Yes v = record {
    literal = λ s h. makes_all s ([], s) (λ w. []) (record { grows = stays s _ (λ w. refl); within = tt });
    held = λ s h. held_as s s (λ w. Unit {0}) _ (λ w p. refl) (λ w q. tt) (held_none s);
  }
  step Formula-F.No v = record {
    literal = λ s h. makes_any s ([], s) (λ w. []) (record { grows = stays s _ (λ w. refl); within = tt });
    held = λ s h. held_after s s ([] ∷ []) (λ w. Unit {0}) (λ w. false ≡ true) (stays s _ (λ w. tt)) (tt, tt) (λ w p k. k.0) (λ w p q. (q, tt)) (λ w u a q. q);
  }
  step (Formula-F.Is item) v =
      let has : 0 < at item = v item (ap (λ b. b || false) ((eq_by_cmp_equiv item_total).refl item)) in
      let made : (s : Form) → n ≤ s.vars → Makes s (record { var = at item; positive = true }, s) (λ w. w (at item)) = λ s h. record { grows = stays s _ (λ w. refl); within = (has, omega (arith, known item, h)) } in
      record {
        literal = made;
        held = λ s h. holds_literal s _ (λ w. w (at item)) (λ w u a. a (at item) (omega (arith, known item, h))) (made s h);
      }
  step (Formula-F.Neg e) v =
      let made : (s : Form) → n ≤ s.vars → Makes s (negate_first ((ways at e.0).literal s)) (λ w. not (means w e.0)) = λ s h. makes_neg s _ _ ((e.1 v).literal s h) in
      record {
        literal = made;
        held = λ s h. holds_literal s _ (λ w. not (means w e.0)) (λ w u a. ap not (means_alike s.vars w u e.0 h a)) (made s h);
      }
  step (Formula-F.AllOf es) v = record {
    literal = λ s h. makes_all s _ _ (each_right es s h v);
    held = λ s h. each_held es s h v;
  }
  step (Formula-F.AnyOf es) v = record {
    literal = λ s h. makes_any s _ _ (each_right es s h v);
    held = λ s h. holds_any s _ (λ w. map (means w) (of es)) (λ w u a. all_alike s.vars w u (of es) h a) (each_right es s h v);
  }

  rolled : (x : Formula-F Formula) → (HaveVariables at (mention_step (map-Formula Formula (List Item) mentioned x)) → Works n (ways_step at (map-Formula Formula Ways (ways at) x)) (λ w. truth_step (λ i. w (at i)) (map-Formula Formula Bool (means w) x)))
      → HaveVariables at (mentioned (roll-Formula x)) → Works n (ways at (roll-Formula x)) (λ w. means w (roll-Formula x))
  rolled x f v =
      let works = f (subst (HaveVariables at) (fold-roll-Formula (List Item) mention_step x) v) in
      let means_same : (λ w. truth_step (λ i. w (at i)) (map-Formula Formula Bool (means w) x)) ≡ (λ w. means w (roll-Formula x)) = λ j w. sym (fold-roll-Formula Bool (truth_step (λ i. w (at i))) x) j in
      subst (λ (t : (ℕ → Bool) → Bool). Works n (ways at (roll-Formula x)) t) means_same
      (subst (λ (m : Ways). Works n m (λ w. truth_step (λ i. w (at i)) (map-Formula Formula Bool (means w) x))) (sym (fold-roll-Formula Ways (ways_step at) x)) works)

  pub works : (f : Formula) → HaveVariables at (mentioned f) → Works n (ways at f) (λ w. truth (λ i. w (at i)) f)
  works = ind-Formula (λ f. HaveVariables at (mentioned f) → Works n (ways at f) (λ w. truth (λ i. w (at i)) f))
      (λ x y is. rolled x (subst (λ (z : Formula-F Formula). HaveVariables at (mention_step (map-Formula Formula (List Item) mentioned z)) → Works n (ways_step at (map-Formula Formula Ways (ways at) z)) (λ w. truth_step (λ i. w (at i)) (map-Formula Formula Bool (means w) z))) is (step y)))
