-- The formulas of a choice are true exactly where it has one mode, its members have one value, and it is right.
use Rattle.std.proofs.Common.{◌≡◌, ℕ, ◌==◌, Bool, true, false, not, ◌&&◌, ◌||◌, cond, List, [], ◌∷◌, ◌++◌, map, filter, length, refl, ap, sym, subst, ◌∙◌, arith}
use Rattle.std.proofs.lemmas.Bool.{false≢true}
use Rattle.std.proofs.lemmas.Bool.Decides.{nat_tests}
use Rattle.std.specs.List.{list_any, list_all, flat_map, AllByRecursion}
use Rattle.ut_logic.specs.declared.item.Item.{Item}
use Rattle.ut_logic.specs.declared.item.Item.TheVariants.{SymY, SymM, ModeY, ModeM}
use Rattle.ut_logic.specs.declared.formula.Formula.{Formula}
use Rattle.ut_logic.specs.declared.formula.Formula.TheVariants.{Is}
use Rattle.ut_logic.specs.Fold.{all_of, not_of}
use Rattle.ut_logic.specs.Truth.{truth, truths, all_true, any_true}
use Rattle.ut_logic.proofs.FoldLaws.{truth-Is, truth-all_of, truth-any_of, truth-not_of}
use Rattle.kconf_tree.specs.declared.shape.Counts.{Counts}
use Rattle.kconf_tree.specs.declared.shape.Counts.TheVariants as counts
use Rattle.kconf_tree.specs.Shape.{counts_as, choice_at}
use Rattle.kconf_tree.specs.Value.{Configuration, has_modules}
use Rattle.kconf_tree.specs.Properties.{visibility_of, choice_visibility_of}
use Rattle.kconf_tree.specs.Valid.{is_y, lets_y, lets_m, can_be_y, can_be_m, allows_mode, choice_counts}
use Rattle.kconf_tree.specs.Right.{is_m, is_n, keeps_mode, has_one_y, is_right_choice}
use Rattle.kconf_tree.proofs.Small.{and_left, and_right}
use Rattle.kconf_constr.specs.Scope.{Scope}
use Rattle.kconf_constr.specs.Levels.{Levels, modules_formula}
use Rattle.kconf_constr.specs.PropertyFormulas.{visibility_levels}
use Rattle.kconf_constr.specs.Stands.{read_off, value_as, mode_as, has_one_as, has_one_value, has_one_mode_as, has_one_mode}
use Rattle.kconf_constr.specs.Closed.{IsTrit}
use Rattle.kconf_constr.specs.ChoiceFormulas.{lets_y_as, can_y, member_y_holds, m_holds_as, member_m_holds, not_both, pairs, are_y, some_holds, choice_levels, bool_mode, tristate_mode, bool_choice_holds, tristate_choice_holds, choice_holds_as, choice_holds}
use Rattle.kconf_constr.proofs.ValueLaws.{Stands, modules_truth}
use Rattle.kconf_constr.proofs.PropertyLaws.{all_append, greatest_stands, visibility_stands}
use Rattle.kconf_constr.proofs.MemberTests.{apart_test, pairs_test, some_test, y_test, m_test, by_one, tristate_mode_test, tristate_mode_is, bool_mode_test, bool_mode_is, one_law, both_lists, all_then, none_then, assembled}

-- whether a member that counts as this has its second item
abbrev pub m_as : Counts → (Item → Bool) → ℕ → Bool
m_as counts.Bool v j = false
m_as counts.Tristate v j = v (SymM j)
m_as counts.Neither v j = false

module _ (s : Scope) (v : Item → Bool) where
  abbrev c : Configuration
  c = read_off s v

  -- the members count as bool or tristate
  abbrev pub AreTrits : List ℕ → Type 0
  AreTrits js = AllByRecursion (λ j. IsTrit (counts_as s.shape j)) js

  -- a member's second item is true
  abbrev has_m : ℕ → Bool
  has_m j = m_as (counts_as s.shape j) v j

  abbrev is_seen : ℕ → Bool
  is_seen j = not (visibility_of s.shape c j == 0)

  y_by : (kind : Counts) (j : ℕ) → IsTrit kind → v (SymY j) ≡ (value_as kind v j == 2)
  y_by counts.Bool j h = bit (v (SymY j))
    where
      bit : (b : Bool) → b ≡ (cond b 2 0 == 2)
      bit true = refl
      bit false = refl
  y_by counts.Tristate j h = bit (v (SymY j)) (v (SymM j))
    where
      bit : (b m : Bool) → b ≡ (cond b 2 (cond m 1 0) == 2)
      bit true m = refl
      bit false true = refl
      bit false false = refl
  y_by counts.Neither j h = absurd h

  y_truth : (j : ℕ) → IsTrit (counts_as s.shape j) → truth v (Is (SymY j)) ≡ is_y c j
  y_truth j h = truth-Is v (SymY j) ∙ y_by (counts_as s.shape j) j h

  -- ---- members

  lets_truth : (kind : Counts) (vis : Levels) (n : ℕ) → Stands v vis n → truth v (lets_y_as kind (modules_formula s.shape.modules) vis) ≡ lets_y kind (has_modules s.shape c) n
  lets_truth counts.Bool vis n h = h.not_n
  lets_truth counts.Tristate vis n h = rw (
    truth-any_of v (vis.is_y ∷ all_of (not_of (modules_formula s.shape.modules) ∷ vis.not_n ∷ []) ∷ []),
    truth-all_of v (not_of (modules_formula s.shape.modules) ∷ vis.not_n ∷ []),
    truth-not_of v (modules_formula s.shape.modules),
    modules_truth s v,
    h.is_y,
    h.not_n,
  ) (by (has_modules s.shape c) n)
    where
      raised : (n : ℕ) → ((n == 2) || ((not (n == 0) && true) || false)) ≡ not (n == 0)
      raised n = grind (arith, nat_tests)

      plain : (b : Bool) → (b || (false || false)) ≡ b
      plain true = refl
      plain false = refl

      by : (on : Bool) (n : ℕ) → any_true ((n == 2) ∷ all_true (not on ∷ not (n == 0) ∷ []) ∷ []) ≡ cond on (n == 2) (not (n == 0))
      by true n = plain (n == 2)
      by false n = raised n
  lets_truth counts.Neither vis n h = h.not_n

  can_truth : (j : ℕ) → truth v (can_y s j) ≡ can_be_y s.shape c j
  can_truth j = lets_truth (counts_as s.shape j) (visibility_levels s j) (visibility_of s.shape c j) (visibility_stands s v j)

  and_group : (a b c : Bool) → (a && (b && c)) ≡ ((a && b) && c)
  and_group true b c = refl
  and_group false b c = refl

  y_truths : (f : Formula) (a : Bool) → truth v f ≡ a → (js : List ℕ) → AreTrits js → all_true (truths v (flat_map (member_y_holds s f) js)) ≡ list_all (λ j. y_test (is_y c j) a (can_be_y s.shape c j)) js
  y_truths f a e [] t = refl
  y_truths f a e (j ∷ js) t = rw (
    truth-any_of v (not_of (Is (SymY j)) ∷ f ∷ []),
    truth-any_of v (not_of (Is (SymY j)) ∷ can_y s j ∷ []),
    truth-not_of v (Is (SymY j)),
    y_truth j t.0,
    can_truth j,
    e,
    y_truths f a e js t.1,
  ) (and_group (any_true (not (is_y c j) ∷ a ∷ [])) (any_true (not (is_y c j) ∷ can_be_y s.shape c j ∷ [])) (list_all (λ k. y_test (is_y c k) a (can_be_y s.shape c k)) js))

  m_truth : (f : Formula) (b : Bool) → truth v f ≡ b → (kind : Counts) (j : ℕ) (rest : List Formula) (more : Bool) → all_true (truths v rest) ≡ more
      → all_true (truths v (m_holds_as s f kind j ++ rest)) ≡ (m_test (m_as kind v j) b (is_seen j) && more)
  m_truth f b e counts.Bool j rest more h = h
  m_truth f b e counts.Tristate j rest more h = rw (
    truth-any_of v (not_of (Is (SymM j)) ∷ f ∷ []),
    truth-any_of v (not_of (Is (SymM j)) ∷ (visibility_levels s j).not_n ∷ []),
    truth-not_of v (Is (SymM j)),
    truth-Is v (SymM j),
    (visibility_stands s v j).not_n,
    e,
    h,
  ) (and_group (any_true (not (v (SymM j)) ∷ b ∷ [])) (any_true (not (v (SymM j)) ∷ is_seen j ∷ [])) more)
  m_truth f b e counts.Neither j rest more h = h

  m_truths : (f : Formula) (b : Bool) → truth v f ≡ b → (js : List ℕ) → all_true (truths v (flat_map (member_m_holds s f) js)) ≡ list_all (λ j. m_test (has_m j) b (is_seen j)) js
  m_truths f b e [] = refl
  m_truths f b e (j ∷ js) = m_truth f b e (counts_as s.shape j) j (flat_map (member_m_holds s f) js) _ (m_truths f b e js)

  apart_truth : (j : ℕ) (js : List ℕ) → IsTrit (counts_as s.shape j) → AreTrits js → all_true (truths v (map (not_both j) js)) ≡ apart_test (is_y c) (can_be_y s.shape c) j js
  apart_truth j [] e b = refl
  apart_truth j (k ∷ ks) e b = rw (
    truth-any_of v (not_of (Is (SymY j)) ∷ not_of (Is (SymY k)) ∷ []),
    truth-not_of v (Is (SymY j)),
    truth-not_of v (Is (SymY k)),
    y_truth j e,
    y_truth k b.0,
    apart_truth j ks e b.1,
  ) refl

  pairs_truth : (js : List ℕ) → AreTrits js → all_true (truths v (pairs js)) ≡ pairs_test (is_y c) (can_be_y s.shape c) js
  pairs_truth [] b = refl
  pairs_truth (j ∷ js) b = rw (all_append v (map (not_both j) js) (pairs js), apart_truth j js b.0 b.1, pairs_truth js b.1) refl

  are_truth : (js : List ℕ) → AreTrits js → truths v (are_y js) ≡ map (is_y c) js
  are_truth [] b = refl
  are_truth (j ∷ js) b = let one = y_truth j b.0 in let more = are_truth js b.1 in cc

  some_truth : (f : Formula) (a : Bool) → truth v f ≡ a → (all : List ℕ) → AreTrits all → (js : List ℕ) → all_true (truths v (map (some_holds s f all) js)) ≡ some_test (is_y c) (can_be_y s.shape c) a all js
  some_truth f a e all h [] = refl
  some_truth f a e all h (j ∷ js) = rw (
    truth-any_of v (not_of f ∷ not_of (can_y s j) ∷ are_y all),
    truth-not_of v f,
    truth-not_of v (can_y s j),
    can_truth j,
    e,
    are_truth all h,
    some_truth f a e all h js,
  ) refl

  -- ---- the mode

  vis_stands : (i : ℕ) → Stands v (choice_levels s i) (choice_visibility_of s.shape c i)
  vis_stands i = greatest_stands s v (choice_at s.shape i).prompts

  bool_mode_truth : (optional : Bool) (i : ℕ) → all_true (truths v (bool_mode optional (Is (ModeY i)) (choice_levels s i))) ≡ bool_mode_test optional (choice_visibility_of s.shape c i == 0) (v (ModeY i))
  bool_mode_truth true i = rw (
    truth-any_of v (not_of (Is (ModeY i)) ∷ (choice_levels s i).not_n ∷ []),
    truth-not_of v (Is (ModeY i)),
    truth-Is v (ModeY i),
    (vis_stands i).not_n,
  ) refl
  bool_mode_truth false i = rw (
    truth-any_of v (not_of (Is (ModeY i)) ∷ (choice_levels s i).not_n ∷ []),
    truth-any_of v (not_of (choice_levels s i).not_n ∷ Is (ModeY i) ∷ []),
    truth-not_of v (Is (ModeY i)),
    truth-not_of v (choice_levels s i).not_n,
    truth-Is v (ModeY i),
    (vis_stands i).not_n,
  ) refl

  abbrev on_formula : Formula
  on_formula = modules_formula s.shape.modules

  tristate_mode_truth : (optional : Bool) (i : ℕ) → all_true (truths v (tristate_mode optional (Is (ModeY i)) (Is (ModeM i)) on_formula (choice_levels s i)))
      ≡ tristate_mode_test optional (choice_visibility_of s.shape c i == 0) (choice_visibility_of s.shape c i == 2) (has_modules s.shape c) (v (ModeY i)) (v (ModeM i))
  tristate_mode_truth true i = rw (
    truth-any_of v (not_of (Is (ModeY i)) ∷ not_of (Is (ModeM i)) ∷ []),
    truth-any_of v (not_of (Is (ModeM i)) ∷ on_formula ∷ []),
    truth-any_of v (not_of (Is (ModeY i)) ∷ (choice_levels s i).not_n ∷ []),
    truth-any_of v (not_of (Is (ModeY i)) ∷ (choice_levels s i).is_y ∷ not_of on_formula ∷ []),
    truth-any_of v (not_of (Is (ModeM i)) ∷ (choice_levels s i).not_n ∷ []),
    truth-not_of v (Is (ModeY i)),
    truth-not_of v (Is (ModeM i)),
    truth-not_of v on_formula,
    truth-Is v (ModeY i),
    truth-Is v (ModeM i),
    modules_truth s v,
    (vis_stands i).not_n,
    (vis_stands i).is_y,
  ) refl
  tristate_mode_truth false i = rw (
    truth-any_of v (not_of (Is (ModeY i)) ∷ not_of (Is (ModeM i)) ∷ []),
    truth-any_of v (not_of (Is (ModeM i)) ∷ on_formula ∷ []),
    truth-any_of v (not_of (Is (ModeY i)) ∷ (choice_levels s i).not_n ∷ []),
    truth-any_of v (not_of (Is (ModeY i)) ∷ (choice_levels s i).is_y ∷ not_of on_formula ∷ []),
    truth-any_of v (not_of (Is (ModeM i)) ∷ (choice_levels s i).not_n ∷ []),
    truth-any_of v (not_of (choice_levels s i).not_n ∷ Is (ModeY i) ∷ Is (ModeM i) ∷ []),
    truth-not_of v (Is (ModeY i)),
    truth-not_of v (Is (ModeM i)),
    truth-not_of v on_formula,
    truth-not_of v (choice_levels s i).not_n,
    truth-Is v (ModeY i),
    truth-Is v (ModeM i),
    modules_truth s v,
    (vis_stands i).not_n,
    (vis_stands i).is_y,
  ) refl

  -- ---- what the rules ask of a member

  kept_by : (kind : Counts) → IsTrit kind → (mode : ℕ) (w : Bool) (vis j : ℕ) → (has_one_as kind v j && cond (value_as kind v j == 2) ((mode == 2) && w) (cond (value_as kind v j == 1) ((mode == 1) && lets_m kind vis) (value_as kind v j == 0)))
      ≡ (not ((value_as kind v j == 2) && m_as kind v j) && cond (value_as kind v j == 2) ((mode == 2) && w) (cond (m_as kind v j) ((mode == 1) && not (vis == 0)) true))
  kept_by counts.Bool t mode w vis j = by (v (SymY j))
    where
      by : (y : Bool) → (true && cond (cond y 2 0 == 2) ((mode == 2) && w) (cond (cond y 2 0 == 1) ((mode == 1) && false) (cond y 2 0 == 0)))
          ≡ (not ((cond y 2 0 == 2) && false) && cond (cond y 2 0 == 2) ((mode == 2) && w) true)
      by true = refl
      by false = refl
  kept_by counts.Tristate t mode w vis j = by (v (SymY j)) (v (SymM j))
    where
      by : (y m : Bool) → (not (y && m) && cond (cond y 2 (cond m 1 0) == 2) ((mode == 2) && w) (cond (cond y 2 (cond m 1 0) == 1) ((mode == 1) && not (vis == 0)) (cond y 2 (cond m 1 0) == 0)))
          ≡ (not ((cond y 2 (cond m 1 0) == 2) && m) && cond (cond y 2 (cond m 1 0) == 2) ((mode == 2) && w) (cond m ((mode == 1) && not (vis == 0)) true))
      by true true = refl
      by true false = refl
      by false true = refl
      by false false = refl
  kept_by counts.Neither t mode w vis j = absurd t

  -- the mode's number tells which of its items is true
  mode_y : (a b : Bool) → (cond a 2 (cond b 1 0) == 2) ≡ a
  mode_y true b = refl
  mode_y false true = refl
  mode_y false false = refl

  mode_m : (a b : Bool) → (cond a 2 (cond b 1 0) == 1) ≡ (not a && b)
  mode_m true b = refl
  mode_m false true = refl
  mode_m false false = refl

  -- the members' formulas say that each has one value and keeps to the mode
  kept_all : (a b : Bool) → not (a && b) ≡ true → (js : List ℕ) → AreTrits js
      → (list_all (λ j. y_test (is_y c j) a (can_be_y s.shape c j)) js && list_all (λ j. m_test (has_m j) b (is_seen j)) js) ≡ (list_all (has_one_value s.shape v) js && list_all (keeps_mode s.shape c (cond a 2 (cond b 1 0))) js)
  kept_all a b one js t = both_lists (λ j. y_test (is_y c j) a (can_be_y s.shape c j)) (λ j. m_test (has_m j) b (is_seen j)) js
      ∙ (each js t ∙ sym (both_lists (has_one_value s.shape v) (keeps_mode s.shape c (cond a 2 (cond b 1 0))) js))
    where
      here : (j : ℕ) → IsTrit (counts_as s.shape j) → (y_test (is_y c j) a (can_be_y s.shape c j) && m_test (has_m j) b (is_seen j)) ≡ (has_one_value s.shape v j && keeps_mode s.shape c (cond a 2 (cond b 1 0)) j)
      here j i = by_one a b (is_y c j) (has_m j) (can_be_y s.shape c j) (is_seen j) one
          ∙ (ap (λ x. not (is_y c j && has_m j) && cond (is_y c j) (x && can_be_y s.shape c j) (cond (has_m j) ((not a && b) && is_seen j) true)) (sym (mode_y a b))
          ∙ ap (λ x. not (is_y c j && has_m j) && cond (is_y c j) ((cond a 2 (cond b 1 0) == 2) && can_be_y s.shape c j) (cond (has_m j) (x && is_seen j) true)) (sym (mode_m a b))
          ∙ sym (kept_by (counts_as s.shape j) i (cond a 2 (cond b 1 0)) (can_be_y s.shape c j) (visibility_of s.shape c j) j))

      each : (ks : List ℕ) → AreTrits ks → list_all (λ j. y_test (is_y c j) a (can_be_y s.shape c j) && m_test (has_m j) b (is_seen j)) ks ≡ list_all (λ j. has_one_value s.shape v j && keeps_mode s.shape c (cond a 2 (cond b 1 0)) j) ks
      each [] h = refl
      each (k ∷ ks) h = let one_here = here k h.0 in let rest = each ks h.1 in λ z. one_here z && rest z

  -- members that keep to the mode are y in mode y alone, and only where they can be
  y_can : (mode j : ℕ) → keeps_mode s.shape c mode j ≡ true → (not (is_y c j) || can_be_y s.shape c j) ≡ true
  y_can mode j h = by (is_y c j) refl h
    where
      by : (b : Bool) → is_y c j ≡ b → cond b ((mode == 2) && can_be_y s.shape c j) (cond (is_m c j) ((mode == 1) && can_be_m s.shape c j) (is_n c j)) ≡ true → (not b || can_be_y s.shape c j) ≡ true
      by true e g = and_right (mode == 2) (can_be_y s.shape c j) g
      by false e g = refl

  y_never : (mode j : ℕ) → (mode == 2) ≡ false → keeps_mode s.shape c mode j ≡ true → is_y c j ≡ false
  y_never mode j off h = by (is_y c j) refl h
    where
      by : (b : Bool) → is_y c j ≡ b → cond b ((mode == 2) && can_be_y s.shape c j) (cond (is_m c j) ((mode == 1) && can_be_m s.shape c j) (is_n c j)) ≡ true → b ≡ false
      by true e g = absurd (false≢true (sym off ∙ and_left (mode == 2) (can_be_y s.shape c j) g))
      by false e g = refl

  single : (a b : Bool) (ms : List ℕ) → list_all (keeps_mode s.shape c (cond a 2 (cond b 1 0))) ms ≡ true
      → (pairs_test (is_y c) (can_be_y s.shape c) ms && some_test (is_y c) (can_be_y s.shape c) a ms ms) ≡ has_one_y s.shape c (cond a 2 (cond b 1 0)) ms
  single a b ms kept = one_law (is_y c) (can_be_y s.shape c) ms a
      (all_then (keeps_mode s.shape c (cond a 2 (cond b 1 0))) (λ j. not (is_y c j) || can_be_y s.shape c j) (y_can (cond a 2 (cond b 1 0))) ms kept)
      (λ e. none_then (keeps_mode s.shape c (cond a 2 (cond b 1 0))) (is_y c) (λ j h. y_never (cond a 2 (cond b 1 0)) j (mode_y a b ∙ e) h) ms kept)
      ∙ ap (λ x. cond (x && list_any (can_be_y s.shape c) ms) (length (filter (is_y c) ms) == 1) true) (sym (mode_y a b))

  -- ---- the whole

  abbrev allowed_as : Counts → ℕ → ℕ → Bool
  allowed_as kind i mode = allows_mode kind (has_modules s.shape c) (choice_at s.shape i).optional (choice_visibility_of s.shape c i) mode

  abbrev right_as : Counts → ℕ → List ℕ → ℕ → Bool
  right_as kind i ms mode = allowed_as kind i mode && (list_all (keeps_mode s.shape c mode) ms && has_one_y s.shape c mode ms)

  tristate_law : (i : ℕ) (ms : List ℕ) → AreTrits ms
      → all_true (truths v (tristate_choice_holds s i ms)) ≡ (has_one_mode_as counts.Tristate v i && (list_all (has_one_value s.shape v) ms && right_as counts.Tristate i ms (mode_as counts.Tristate v i)))
  tristate_law i ms t = let a = v (ModeY i) in let b = v (ModeM i) in let optional : Bool = (choice_at s.shape i).optional in
      let mode : List Formula = tristate_mode optional (Is (ModeY i)) (Is (ModeM i)) on_formula (choice_levels s i) in
      let ys : List Formula = flat_map (member_y_holds s (Is (ModeY i))) ms in
      let mms : List Formula = flat_map (member_m_holds s (Is (ModeM i))) ms in
      let some : List Formula = map (some_holds s (Is (ModeY i)) ms) ms in
      all_append v (mode ++ ys ++ mms ++ pairs ms) some
      ∙ (ap (λ x. x && all_true (truths v some)) (all_append v (mode ++ ys ++ mms) (pairs ms) ∙ ap (λ x. x && all_true (truths v (pairs ms))) (all_append v (mode ++ ys) mms ∙ ap (λ x. x && all_true (truths v mms)) (all_append v mode ys)))
      ∙ rw (
        tristate_mode_truth optional i,
        tristate_mode_is optional (has_modules s.shape c) (v (ModeY i)) (v (ModeM i)) (choice_visibility_of s.shape c i),
        y_truths (Is (ModeY i)) (v (ModeY i)) (truth-Is v (ModeY i)) ms t,
        m_truths (Is (ModeM i)) (v (ModeM i)) (truth-Is v (ModeM i)) ms,
        pairs_truth ms t,
        some_truth (Is (ModeY i)) (v (ModeY i)) (truth-Is v (ModeY i)) ms t ms,
      ) (assembled _ _ _ _ _ _ _ _ _ (λ one. kept_all (v (ModeY i)) (v (ModeM i)) one ms t) (λ one kept. single (v (ModeY i)) (v (ModeM i)) ms kept)))

  -- a bool choice, whose members are bool, has no second items
  no_m : (js : List ℕ) → AllByRecursion (λ j. counts_as s.shape j ≡ counts.Bool) js → list_all (λ j. m_test (has_m j) false (is_seen j)) js ≡ true
  no_m [] h = refl
  no_m (j ∷ js) h = ap (λ kind. m_test (m_as kind v j) false (is_seen j) && list_all (λ k. m_test (has_m k) false (is_seen k)) js) h.0 ∙ no_m js h.1

  bools_are : (js : List ℕ) → AllByRecursion (λ j. counts_as s.shape j ≡ counts.Bool) js → AreTrits js
  bools_are [] h = tt
  bools_are (j ∷ js) h = (subst IsTrit (sym h.0) tt, bools_are js h.1)

  and_true : (a : Bool) → (a && true) ≡ a
  and_true true = refl
  and_true false = refl

  bool_law : (i : ℕ) (ms : List ℕ) → AllByRecursion (λ j. counts_as s.shape j ≡ counts.Bool) ms
      → all_true (truths v (bool_choice_holds s i ms)) ≡ (true && (list_all (has_one_value s.shape v) ms && right_as counts.Bool i ms (mode_as counts.Bool v i)))
  bool_law i ms h = let t = bools_are ms h in let optional : Bool = (choice_at s.shape i).optional in
      let mode : List Formula = bool_mode optional (Is (ModeY i)) (choice_levels s i) in
      let ys : List Formula = flat_map (member_y_holds s (Is (ModeY i))) ms in
      let some : List Formula = map (some_holds s (Is (ModeY i)) ms) ms in
      let allows : Bool = allowed_as counts.Bool i (mode_as counts.Bool v i) in
      let kept : Bool = list_all (λ j. y_test (is_y c j) (v (ModeY i)) (can_be_y s.shape c j)) ms in
      let alone : Bool = pairs_test (is_y c) (can_be_y s.shape c) ms in
      let one_y : Bool = some_test (is_y c) (can_be_y s.shape c) (v (ModeY i)) ms ms in
      all_append v (mode ++ ys ++ pairs ms) some
      ∙ (ap (λ x. x && all_true (truths v some)) (all_append v (mode ++ ys) (pairs ms) ∙ ap (λ x. x && all_true (truths v (pairs ms))) (all_append v mode ys))
      ∙ rw (
        bool_mode_truth optional i,
        bool_mode_is (has_modules s.shape c) optional (v (ModeY i)) (choice_visibility_of s.shape c i),
        y_truths (Is (ModeY i)) (v (ModeY i)) (truth-Is v (ModeY i)) ms t,
        pairs_truth ms t,
        some_truth (Is (ModeY i)) (v (ModeY i)) (truth-Is v (ModeY i)) ms t ms,
      ) (added allows kept alone one_y ∙ assembled true allows kept true (list_all (has_one_value s.shape v) ms) (list_all (keeps_mode s.shape c (mode_as counts.Bool v i)) ms) alone one_y (has_one_y s.shape c (mode_as counts.Bool v i) ms)
      (λ one. ap (λ x. list_all (λ j. y_test (is_y c j) (v (ModeY i)) (can_be_y s.shape c j)) ms && x) (sym (no_m ms h)) ∙ kept_all (v (ModeY i)) false (never (v (ModeY i))) ms t)
      (λ one keep. single (v (ModeY i)) false ms keep)))
    where
      added : (m y p q : Bool) → (((m && y) && p) && q) ≡ (((((true && m) && y) && true) && p) && q)
      added m y p q = ap (λ x. (x && p) && q) (sym (and_true (m && y)))

      never : (a : Bool) → not (a && false) ≡ true
      never true = refl
      never false = refl

  -- the members of a choice that is no tristate count as bool
  abbrev pub MembersFit : Counts → List ℕ → Type 0
  MembersFit counts.Bool ms = AllByRecursion (λ j. counts_as s.shape j ≡ counts.Bool) ms
  MembersFit counts.Tristate ms = AreTrits ms
  MembersFit counts.Neither ms = AllByRecursion (λ j. counts_as s.shape j ≡ counts.Bool) ms

  law_as : (kind : Counts) (i : ℕ) (ms : List ℕ) → MembersFit kind ms
      → all_true (truths v (choice_holds_as s kind i ms)) ≡ (has_one_mode_as kind v i && (list_all (has_one_value s.shape v) ms && right_as kind i ms (mode_as kind v i)))
  law_as counts.Bool i ms h = bool_law i ms h
  law_as counts.Tristate i ms h = tristate_law i ms h
  law_as counts.Neither i ms h = bool_law i ms h

  pub choice_law : (i : ℕ) → MembersFit (choice_counts s.shape i) (choice_at s.shape i).members
      → all_true (truths v (choice_holds s i)) ≡ (has_one_mode s.shape v i && (list_all (has_one_value s.shape v) (choice_at s.shape i).members && is_right_choice s.shape c i))
  choice_law i h = law_as (choice_counts s.shape i) i (choice_at s.shape i).members h
