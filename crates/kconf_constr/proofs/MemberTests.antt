-- Tests on the members of a choice, as its formulas put them and as its rules do.
use Rattle.std.proofs.Common.{◌≡◌, ℕ, suc, ◌==◌, Bool, true, false, not, ◌&&◌, ◌||◌, cond, List, [], ◌∷◌, map, filter, length, refl, ap, sym, ◌∙◌, arith}
use Rattle.std.proofs.lemmas.Bool.Decides.{nat_tests}
use Rattle.std.specs.List.{list_any, list_all}
use Rattle.ut_logic.specs.Truth.{any_true}
use Rattle.kconf_tree.specs.declared.shape.Counts.TheVariants as counts
use Rattle.kconf_tree.specs.Valid.{allows_mode}
use Rattle.kconf_tree.proofs.Small.{and_left, and_right, both_true}
use Rattle.kconf_constr.proofs.Tables.{on_both, at_both, same_bool, same_bool_is, implies, implies_is}

-- exactly one passes
abbrev pub exactly_one : (ℕ → Bool) → List ℕ → Bool
exactly_one p [] = false
exactly_one p (j ∷ js) = cond (p j) (not (list_any p js)) (exactly_one p js)

-- ---- tests on lists of members: p says that one is y, w that it can be

module _ (p w : ℕ → Bool) where
  abbrev pub each_can : List ℕ → Bool
  each_can js = list_all (λ j. not (p j) || w j) js

  abbrev pub apart_test : ℕ → List ℕ → Bool
  apart_test j [] = true
  apart_test j (k ∷ ks) = any_true (not (p j) ∷ not (p k) ∷ []) && apart_test j ks

  abbrev pub pairs_test : List ℕ → Bool
  pairs_test [] = true
  pairs_test (j ∷ js) = apart_test j js && pairs_test js

  abbrev pub some_test : Bool → List ℕ → List ℕ → Bool
  some_test on all [] = true
  some_test on all (j ∷ js) = any_true (not on ∷ not (w j) ∷ map p all) && some_test on all js

  apart_step : (y x b : Bool) → (any_true (not y ∷ not x ∷ []) && (not y || not b)) ≡ (not y || not (x || b))
  apart_step true true b = refl
  apart_step true false b = refl
  apart_step false x b = refl

  nothing : (y : Bool) → true ≡ (not y || true)
  nothing true = refl
  nothing false = refl

  apart_is : (j : ℕ) (js : List ℕ) → apart_test j js ≡ (not (p j) || not (list_any p js))
  apart_is j [] = nothing (p j)
  apart_is j (k ∷ ks) = rw (apart_is j ks) (apart_step (p j) (p k) (list_any p ks))

  none_false : (a b : Bool) → (a || b) ≡ false → b ≡ false
  none_false true b h = absurd (cc)
  none_false false b h = h

  -- with none there is no pair
  pairs_none : (js : List ℕ) → list_any p js ≡ false → pairs_test js ≡ true
  pairs_none [] h = refl
  pairs_none (j ∷ js) h = rw (apart_is j js, none_false (p j) (list_any p js) h, pairs_none js (none_false (p j) (list_any p js) h)) (after (p j))
    where
      after : (y : Bool) → ((not y || true) && true) ≡ true
      after true = refl
      after false = refl

  one_step : (y b a e : Bool) → (b ≡ false → a ≡ true) → (a && b) ≡ e → (((not y || not b) && a) && (y || b)) ≡ cond y (not b) e
  one_step true true a e g h = refl
  one_step true false a e g h = rw (g refl) refl
  one_step false b a e g h = h

  -- no two and some one is exactly one
  pairs_one : (js : List ℕ) → (pairs_test js && list_any p js) ≡ exactly_one p js
  pairs_one [] = refl
  pairs_one (j ∷ js) = rw (apart_is j js) (one_step (p j) (list_any p js) (pairs_test js) (exactly_one p js) (pairs_none js) (pairs_one js))

  any_is : (js : List ℕ) → any_true (map p js) ≡ list_any p js
  any_is [] = refl
  any_is (j ∷ js) = ap (λ b. p j || b) (any_is js)

  some_step : (on x a b : Bool) → ((not on || (not x || a)) && (not on || (not b || a))) ≡ (not on || (not (x || b) || a))
  some_step true true true b = sym (nothing b)
  some_step true true false b = refl
  some_step true false a b = refl
  some_step false x a b = refl

  none_on : (on : Bool) → true ≡ (not on || true)
  none_on true = refl
  none_on false = refl

  pub some_is : (on : Bool) (all js : List ℕ) → some_test on all js ≡ (not on || (not (list_any w js) || list_any p all))
  some_is on all [] = none_on on
  some_is on all (j ∷ js) = rw (some_is on all js, any_is all) (some_step on (w j) (list_any p all) (list_any w js))

  -- where none can be y, none is
  can_step : (y x b c a : Bool) → (x || b) ≡ false → ((not y || x) && c) ≡ true → (b ≡ false → c ≡ true → a ≡ false) → (y || a) ≡ false
  can_step y true b c a h g k = absurd (cc)
  can_step true false b c a h g k = absurd (cc)
  can_step false false b c a h g k = k h g

  can_none : (js : List ℕ) → list_any w js ≡ false → each_can js ≡ true → list_any p js ≡ false
  can_none [] h g = refl
  can_none (j ∷ js) h g = can_step (p j) (w j) (list_any w js) (each_can js) (list_any p js) h g (can_none js)

  -- ---- counted

  never : (n : ℕ) → (suc n == 0) ≡ false
  never n = grind (arith, nat_tests)

  less : (n : ℕ) → (suc n == 1) ≡ (n == 0)
  less n = grind (arith, nat_tests)

  none_is : (js : List ℕ) → not (list_any p js) ≡ (length (filter p js) == 0)
  none_is [] = refl
  none_is (j ∷ js) = by (p j) (none_is js)
    where
      by : (b : Bool) → not (list_any p js) ≡ (length (filter p js) == 0) → not (b || list_any p js) ≡ (length (cond b (j ∷ filter p js) (filter p js)) == 0)
      by true h = sym (never (length (filter p js)))
      by false h = h

  one_is : (js : List ℕ) → exactly_one p js ≡ (length (filter p js) == 1)
  one_is [] = refl
  one_is (j ∷ js) = by (p j) (one_is js)
    where
      by : (b : Bool) → exactly_one p js ≡ (length (filter p js) == 1) → cond b (not (list_any p js)) (exactly_one p js) ≡ (length (cond b (j ∷ filter p js) (filter p js)) == 1)
      by true h = none_is js ∙ sym (less (length (filter p js)))
      by false h = h

-- ---- one member, by trying all truths

abbrev pub y_test : (y a w : Bool) → Bool
y_test y a w = any_true (not y ∷ a ∷ []) && any_true (not y ∷ w ∷ [])

abbrev pub m_test : (m b x : Bool) → Bool
m_test m b x = any_true (not m ∷ b ∷ []) && any_true (not m ∷ x ∷ [])

-- what the rules ask of it, in mode y, in mode m or in neither
abbrev pub kept_test : (y m a b w x : Bool) → Bool
kept_test y m a b w x = not (y && m) && cond y (a && w) (cond m ((not a && b) && x) true)

abbrev one_member : (a b y m w x : Bool) → Bool
one_member a b y m w x = implies (not (a && b)) (same_bool (y_test y a w && m_test m b x) (kept_test y m a b w x))

one_table : on_both (λ a. on_both (λ b. on_both (λ y. on_both (λ m. on_both (λ w. on_both (λ x. one_member a b y m w x)))))) ≡ true
one_table = refl

pub by_one : (a b y m w x : Bool) → not (a && b) ≡ true → (y_test y a w && m_test m b x) ≡ kept_test y m a b w x
by_one a b y m w x h = same_bool_is _ _ (implies_is _ _ (at_both (λ x. one_member a b y m w x)
    (at_both (λ w. on_both (λ x. one_member a b y m w x))
    (at_both (λ m. on_both (λ w. on_both (λ x. one_member a b y m w x)))
    (at_both (λ y. on_both (λ m. on_both (λ w. on_both (λ x. one_member a b y m w x))))
    (at_both (λ b. on_both (λ y. on_both (λ m. on_both (λ w. on_both (λ x. one_member a b y m w x)))))
    (at_both (λ a. on_both (λ b. on_both (λ y. on_both (λ m. on_both (λ w. on_both (λ x. one_member a b y m w x)))))) one_table a) b) y) m) w) x) h)

-- ---- the mode, by trying all truths

abbrev pub tristate_mode_test : (optional n y on a b : Bool) → Bool
tristate_mode_test optional n y on a b = any_true (not a ∷ not b ∷ []) && (any_true (not b ∷ on ∷ []) && (any_true (not a ∷ not n ∷ []) && (any_true (not a ∷ y ∷ not on ∷ []) && (any_true (not b ∷ not n ∷ []) && cond optional true (any_true (not (not n) ∷ a ∷ b ∷ []) && true)))))

-- a visibility that isn't both n and y
abbrev mode_case : (optional n y on a b : Bool) → Bool
mode_case optional n y on a b = implies (not (n && y)) (same_bool (tristate_mode_test optional n y on a b)
    (not (a && b) && cond a (cond on y (not n)) (cond b (on && not n) (n || optional))))

mode_table : on_both (λ optional. on_both (λ n. on_both (λ y. on_both (λ on. on_both (λ a. on_both (λ b. mode_case optional n y on a b)))))) ≡ true
mode_table = refl

by_mode : (optional n y on a b : Bool) → not (n && y) ≡ true → tristate_mode_test optional n y on a b ≡ (not (a && b) && cond a (cond on y (not n)) (cond b (on && not n) (n || optional)))
by_mode optional n y on a b h = same_bool_is _ _ (implies_is _ _ (at_both (λ b. mode_case optional n y on a b)
    (at_both (λ a. on_both (λ b. mode_case optional n y on a b))
    (at_both (λ on. on_both (λ a. on_both (λ b. mode_case optional n y on a b)))
    (at_both (λ y. on_both (λ on. on_both (λ a. on_both (λ b. mode_case optional n y on a b))))
    (at_both (λ n. on_both (λ y. on_both (λ on. on_both (λ a. on_both (λ b. mode_case optional n y on a b)))))
    (at_both (λ optional. on_both (λ n. on_both (λ y. on_both (λ on. on_both (λ a. on_both (λ b. mode_case optional n y on a b)))))) mode_table optional) n) y) on) a) b) h)

never_both : (vis : ℕ) → not ((vis == 0) && (vis == 2)) ≡ true
never_both vis = grind (arith, nat_tests)

-- the formulas of a tristate choice's mode say that it has one, and that it is allowed
pub tristate_mode_is : (optional on a b : Bool) (vis : ℕ) → tristate_mode_test optional (vis == 0) (vis == 2) on a b ≡ (not (a && b) && allows_mode counts.Tristate on optional vis (cond a 2 (cond b 1 0)))
tristate_mode_is optional on a b vis = by_mode optional (vis == 0) (vis == 2) on a b (never_both vis) ∙ meant a b
  where
    meant : (a b : Bool) → (not (a && b) && cond a (cond on (vis == 2) (not (vis == 0))) (cond b (on && not (vis == 0)) ((vis == 0) || optional))) ≡ (not (a && b) && allows_mode counts.Tristate on optional vis (cond a 2 (cond b 1 0)))
    meant true true = refl
    meant true false = refl
    meant false true = refl
    meant false false = refl

abbrev pub bool_mode_test : (optional n a : Bool) → Bool
bool_mode_test optional n a = any_true (not a ∷ not n ∷ []) && cond optional true (any_true (not (not n) ∷ a ∷ []) && true)

-- likewise those of a bool choice, which can't be m
pub bool_mode_is : (on optional a : Bool) (vis : ℕ) → bool_mode_test optional (vis == 0) a ≡ allows_mode counts.Bool on optional vis (cond a 2 0)
bool_mode_is on optional a vis = by optional (vis == 0) a
  where
    by : (o n y : Bool) → bool_mode_test o n y ≡ cond (cond y 2 0 == 0) (n || o) (cond (cond y 2 0 == 1) (on && false) ((cond y 2 0 == 2) && not n))
    by true true true = refl
    by true true false = refl
    by true false true = refl
    by true false false = refl
    by false true true = refl
    by false true false = refl
    by false false true = refl
    by false false false = refl

-- ---- one is y where one can be

module _ (p w : ℕ → Bool) (ms : List ℕ) where
  off : (a : Bool) → not a ≡ true → a ≡ false
  off true h = absurd (cc)
  off false h = refl

  -- given that y is in mode y alone, and only where it can be
  pub one_law : (a : Bool) → each_can p w ms ≡ true → (a ≡ false → list_any p ms ≡ false) → (pairs_test p w ms && some_test p w a ms ms) ≡ cond (a && list_any w ms) (length (filter p ms) == 1) true
  one_law a each none = rw (some_is p w a ms ms) (by a refl (list_any w ms) refl)
    where
      by : (b : Bool) → a ≡ b → (can : Bool) → list_any w ms ≡ can → (pairs_test p w ms && (not b || (not can || list_any p ms))) ≡ cond (b && can) (length (filter p ms) == 1) true
      by true e true g = pairs_one p w ms ∙ one_is p w ms
      by true e false g = ap (λ x. x && true) (pairs_none p w ms (can_none p w ms g each))
      by false e can g = ap (λ x. x && true) (pairs_none p w ms (none e))

-- ---- lists

pub both_lists : (p q : ℕ → Bool) (js : List ℕ) → (list_all p js && list_all q js) ≡ list_all (λ j. p j && q j) js
both_lists p q [] = refl
both_lists p q (j ∷ js) = step (p j) (q j) (list_all p js) (list_all q js) ∙ ap (λ b. (p j && q j) && b) (both_lists p q js)
  where
    step : (a b c d : Bool) → ((a && c) && (b && d)) ≡ ((a && b) && (c && d))
    step true true c d = refl
    step true false true d = refl
    step true false false d = refl
    step false b c d = refl

-- where each passes, each of what it follows from passes
pub all_then : (p q : ℕ → Bool) → ((j : ℕ) → p j ≡ true → q j ≡ true) → (js : List ℕ) → list_all p js ≡ true → list_all q js ≡ true
all_then p q f [] h = refl
all_then p q f (j ∷ js) h = both_true (q j) (list_all q js) (f j (and_left (p j) (list_all p js) h)) (all_then p q f js (and_right (p j) (list_all p js) h))

pub none_then : (p q : ℕ → Bool) → ((j : ℕ) → p j ≡ true → q j ≡ false) → (js : List ℕ) → list_all p js ≡ true → list_any q js ≡ false
none_then p q f [] h = refl
none_then p q f (j ∷ js) h = step (q j) (list_any q js) (f j (and_left (p j) (list_all p js) h)) (none_then p q f js (and_right (p j) (list_all p js) h))
  where
    step : (a b : Bool) → a ≡ false → b ≡ false → (a || b) ≡ false
    step true b x y = x
    step false b x y = y

-- ---- the parts put together

-- one mode, an allowed one, members that keep to it, and one that is y where one can be
pub assembled : (one allowed first second values kept pairs some single : Bool) → (one ≡ true → (first && second) ≡ (values && kept))
    → (one ≡ true → kept ≡ true → (pairs && some) ≡ single) → (((((one && allowed) && first) && second) && pairs) && some) ≡ (one && (values && (allowed && (kept && single))))
assembled false allowed first second values kept pairs some single f g = refl
assembled true false first second values kept pairs some single f g = by values
  where
    by : (b : Bool) → false ≡ (b && false)
    by true = refl
    by false = refl
assembled true true first second true true pairs some single f g = ap (λ b. (b && pairs) && some) (f refl) ∙ g refl refl
assembled true true first second true false pairs some single f g = ap (λ b. (b && pairs) && some) (f refl)
assembled true true first second false kept pairs some single f g = ap (λ b. (b && pairs) && some) (f refl)
