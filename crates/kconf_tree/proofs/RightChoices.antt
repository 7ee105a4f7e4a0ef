-- A choice keeps its rules exactly where the test passes, and its mode and members are n, m or y.
use Rattle.std.proofs.Common.{◌≡◌, ℕ, ◌≤◌, ◌==◌, Bool, true, false, not, ◌&&◌, ◌||◌, cond, List, [], ◌∷◌, length, filter, All, refl, ap, sym, ◌∙◌, arith, ◌⊎◌, inl, inr}
use Rattle.std.proofs.lemmas.Bool.Decides.{nat_tests}
use Rattle.std.proofs.lemmas.Grind.{common_steps}
use Rattle.std.specs.List.{list_any, list_all, AllByRecursion}
use Rattle.std.proofs.lemmas.List.Elements.{All-from_recursion, recursion_from_All}
use Rattle.kconf_tree.specs.declared.shape.Counts.{Counts}
use Rattle.kconf_tree.specs.Shape.{Shape, choice_at}
use Rattle.kconf_tree.specs.Value.{Configuration, has_modules}
use Rattle.kconf_tree.specs.Properties.{choice_visibility_of}
use Rattle.kconf_tree.specs.Valid.{is_y, can_be_y, can_be_m, lets_y, lets_m, allows_mode, choice_counts, has_allowed_mode, KeepsMode, IsRightChoice}
use Rattle.kconf_tree.specs.Right.{is_m, is_n, keeps_mode, has_one_y, is_right_choice}
use Rattle.kconf_tree.proofs.Small.{and_left, and_right, both_true, number_is, number_self}

module _ (t : Shape) (c : Configuration) where
  keeps_by_test : (mode j : ℕ) → keeps_mode t c mode j ≡ true → KeepsMode t c mode j
  keeps_by_test mode j h = by_y (c.value j == 2) refl (c.value j == 1) refl h
    where
      by_y : (y : Bool) → (c.value j == 2) ≡ y → (m : Bool) → (c.value j == 1) ≡ m
          → cond y ((mode == 2) && can_be_y t c j) (cond m ((mode == 1) && can_be_m t c j) (c.value j == 0)) ≡ true → KeepsMode t c mode j
      by_y true e m f g = inr (inl (number_is (c.value j) 2 e, number_is mode 2 (and_left (mode == 2) (can_be_y t c j) g), and_right (mode == 2) (can_be_y t c j) g))
      by_y false e true f g = inr (inr (number_is (c.value j) 1 f, number_is mode 1 (and_left (mode == 1) (can_be_m t c j) g), and_right (mode == 1) (can_be_m t c j) g))
      by_y false e false f g = inl (number_is (c.value j) 0 g)

  test_by_keeps : (mode j : ℕ) → KeepsMode t c mode j → keeps_mode t c mode j ≡ true
  test_by_keeps mode j (inl n) = ap (λ (x : ℕ). cond (x == 2) ((mode == 2) && can_be_y t c j) (cond (x == 1) ((mode == 1) && can_be_m t c j) (x == 0))) n
  test_by_keeps mode j (inr (inl y)) = ap (λ (x : ℕ). cond (x == 2) ((mode == 2) && can_be_y t c j) (cond (x == 1) ((mode == 1) && can_be_m t c j) (x == 0))) y.0
      ∙ both_true (mode == 2) (can_be_y t c j) (ap (λ (x : ℕ). x == 2) y.1) y.2
  test_by_keeps mode j (inr (inr m)) = ap (λ (x : ℕ). cond (x == 2) ((mode == 2) && can_be_y t c j) (cond (x == 1) ((mode == 1) && can_be_m t c j) (x == 0))) m.0
      ∙ both_true (mode == 1) (can_be_m t c j) (ap (λ (x : ℕ). x == 1) m.1) m.2

  all_by_test : (mode : ℕ) (ms : List ℕ) → list_all (keeps_mode t c mode) ms ≡ true → AllByRecursion (KeepsMode t c mode) ms
  all_by_test mode [] h = tt
  all_by_test mode (j ∷ js) h = (keeps_by_test mode j (and_left (keeps_mode t c mode j) (list_all (keeps_mode t c mode) js) h), all_by_test mode js (and_right (keeps_mode t c mode j) (list_all (keeps_mode t c mode) js) h))

  test_by_all : (mode : ℕ) (ms : List ℕ) → AllByRecursion (KeepsMode t c mode) ms → list_all (keeps_mode t c mode) ms ≡ true
  test_by_all mode [] h = refl
  test_by_all mode (j ∷ js) h = both_true (keeps_mode t c mode j) (list_all (keeps_mode t c mode) js) (test_by_keeps mode j h.0) (test_by_all mode js h.1)

  one_by_test : (mode : ℕ) (ms : List ℕ) → has_one_y t c mode ms ≡ true → mode ≡ 2 → list_any (can_be_y t c) ms ≡ true → length (filter (is_y c) ms) ≡ 1
  one_by_test mode ms h m some = number_is (length (filter (is_y c) ms)) 1
      (sym (ap (λ b. cond b (length (filter (is_y c) ms) == 1) true) (both_true (mode == 2) (list_any (can_be_y t c) ms) (ap (λ (x : ℕ). x == 2) m) some)) ∙ h)

  test_by_one : (mode : ℕ) (ms : List ℕ) → (mode ≡ 2 → list_any (can_be_y t c) ms ≡ true → length (filter (is_y c) ms) ≡ 1) → has_one_y t c mode ms ≡ true
  test_by_one mode ms f = by (mode == 2) refl (list_any (can_be_y t c) ms) refl
    where
      by : (m : Bool) → (mode == 2) ≡ m → (some : Bool) → list_any (can_be_y t c) ms ≡ some → cond (m && some) (length (filter (is_y c) ms) == 1) true ≡ true
      by true e true g = ap (λ (x : ℕ). x == 1) (f (number_is mode 2 e) g)
      by true e false g = refl
      by false e some g = refl

  -- the test is the demand
  pub choice_by_test : (i : ℕ) → is_right_choice t c i ≡ true → IsRightChoice t c i
  choice_by_test i h = let ms : List ℕ = (choice_at t i).members in
      let rest = and_right (has_allowed_mode t c i) (list_all (keeps_mode t c (c.mode i)) ms && has_one_y t c (c.mode i) ms) h in record {
        mode = and_left (has_allowed_mode t c i) (list_all (keeps_mode t c (c.mode i)) ms && has_one_y t c (c.mode i) ms) h;
        members = All-from_recursion (KeepsMode t c (c.mode i)) ms (all_by_test (c.mode i) ms (and_left (list_all (keeps_mode t c (c.mode i)) ms) (has_one_y t c (c.mode i) ms) rest));
        one = one_by_test (c.mode i) ms (and_right (list_all (keeps_mode t c (c.mode i)) ms) (has_one_y t c (c.mode i) ms) rest);
      }

  pub test_by_choice : (i : ℕ) → IsRightChoice t c i → is_right_choice t c i ≡ true
  test_by_choice i r = let ms : List ℕ = (choice_at t i).members in
      both_true (has_allowed_mode t c i) (list_all (keeps_mode t c (c.mode i)) ms && has_one_y t c (c.mode i) ms) r.mode
      (both_true (list_all (keeps_mode t c (c.mode i)) ms) (has_one_y t c (c.mode i) ms) (test_by_all (c.mode i) ms (recursion_from_All (KeepsMode t c (c.mode i)) ms r.members)) (test_by_one (c.mode i) ms r.one))

  -- ---- values are n, m or y

  pub kept_small : (mode j : ℕ) → KeepsMode t c mode j → c.value j ≤ 2
  kept_small mode j (inl n) = omega (arith, n)
  kept_small mode j (inr (inl y)) = let e : c.value j ≡ 2 = y.0 in omega (arith, e)
  kept_small mode j (inr (inr m)) = let e : c.value j ≡ 1 = m.0 in omega (arith, e)

allowed_small : (kind : Counts) (on optional : Bool) (vis mode : ℕ) → allows_mode kind on optional vis mode ≡ true → mode ≤ 2
allowed_small kind on optional vis mode h = by (mode == 0) refl (mode == 1) refl (mode == 2) refl h
  where
    by : (n : Bool) → (mode == 0) ≡ n → (m : Bool) → (mode == 1) ≡ m → (y : Bool) → (mode == 2) ≡ y
        → cond n ((vis == 0) || optional) (cond m (on && lets_m kind vis) (y && lets_y kind on vis)) ≡ true → mode ≤ 2
    by true e m f y g k = let is : mode ≡ 0 = number_is mode 0 e in omega (arith, is)
    by false e true f y g k = let is : mode ≡ 1 = number_is mode 1 f in omega (arith, is)
    by false e false f true g k = let is : mode ≡ 2 = number_is mode 2 g in omega (arith, is)
    by false e false f false g k = absurd (cc)

pub mode_small : (t : Shape) (c : Configuration) (i : ℕ) → IsRightChoice t c i → c.mode i ≤ 2
mode_small t c i r = allowed_small (choice_counts t i) (has_modules t c) (choice_at t i).optional (choice_visibility_of t c i) (c.mode i) r.mode
