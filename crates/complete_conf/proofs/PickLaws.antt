-- A choice without a user's setting keeps its rules.
use Rattle.std.proofs.Common.{◌≡◌, ℕ, ◌==◌, Bool, true, false, not, ◌&&◌, ◌||◌, cond, List, [], ◌∷◌, ◌++◌, length, filter, refl, ap, sym, ◌∙◌, subst, arith, Option, None, Some, ◌⊎◌, inl, inr}
use Rattle.std.proofs.lemmas.Grind.{common_steps}
use Rattle.std.proofs.lemmas.Bool.Decides.{nat_tests}
use Rattle.std.specs.List.{list_any, list_all, find}
use Rattle.std.proofs.lemmas.Bool.{false≢true}
use Rattle.kconf_tree.specs.declared.shape.Counts.{Counts}
use Rattle.kconf_tree.specs.declared.shape.Counts.TheVariants as counts
use Rattle.kconf_tree.specs.Shape.{Shape, symbol_at, choice_at, is_the}
use Rattle.kconf_tree.specs.Value.{Configuration, has_modules}
use Rattle.kconf_tree.specs.Properties.{choice_visibility_of}
use Rattle.kconf_tree.specs.Valid.{is_y, can_be_y, can_be_m, allows_mode, choice_counts, has_allowed_mode, IsRightChoice}
use Rattle.kconf_tree.specs.Right.{keeps_mode, has_one_y}
use Rattle.kconf_tree.specs.Apart.{AreApart}
use Rattle.complete_conf.specs.Free.{least_mode, free_mode, named_by_defaults, is_candidate, picked_at, picked_of, picked_value}
use Rattle.kconf_tree.specs.WellMade.{is_among, IsWellMade}
use Rattle.kconf_tree.proofs.RightChoices.{choice_by_test}
use Rattle.kconf_tree.proofs.Small.{and_left, and_right, or_left, or_right, or_left_false, or_right_false, number_is, number_self, both_true}

module _ (p : ℕ → Bool) where
  -- what is found passes
  found_passes : (js : List ℕ) (m : ℕ) → find p js ≡ Some m → p m ≡ true
  found_passes [] m h = absurd (cc)
  found_passes (j ∷ js) m h = by (p j) refl h (found_passes js m)
    where
      by : (b : Bool) → p j ≡ b → cond b (Some j) (find p js) ≡ Some m → (find p js ≡ Some m → p m ≡ true) → p m ≡ true
      by true e g rest = let same : j ≡ m = cc in ap p (sym same) ∙ e
      by false e g rest = rest g

  -- where nothing is found nothing passes
  none_passes : (js ks : List ℕ) → find p (js ++ ks) ≡ None → list_any p ks ≡ false
  none_passes [] [] h = refl
  none_passes [] (k ∷ ks) h = by (p k) h (none_passes [] ks)
    where
      by : (b : Bool) → cond b (Some k) (find p ks) ≡ None → (find p ks ≡ None → list_any p ks ≡ false) → (b || list_any p ks) ≡ false
      by true g rest = absurd (cc)
      by false g rest = rest g
  none_passes (j ∷ js) ks h = by (p j) h (none_passes js ks)
    where
      by : (b : Bool) → cond b (Some j) (find p (js ++ ks)) ≡ None → (find p (js ++ ks) ≡ None → list_any p ks ≡ false) → list_any p ks ≡ false
      by true g rest = absurd (cc)
      by false g rest = rest g

-- ---- m is exactly one of numbers that are apart

absent : (js : List ℕ) (m : ℕ) → list_any (λ j. m == j) js ≡ false → filter (λ j. m == j) js ≡ []
absent [] m h = refl
absent (j ∷ js) m h = ap (λ b. cond b (j ∷ filter (λ k. m == k) js) (filter (λ k. m == k) js)) (or_left_false (m == j) (list_any (λ k. m == k) js) h) ∙ absent js m (or_right_false (m == j) (list_any (λ k. m == k) js) h)

exactly_that : (js : List ℕ) (m : ℕ) → is_among js m ≡ true → AreApart (λ j k. j == k) js → length (filter (λ j. m == j) js) ≡ 1
exactly_that [] m h d = absurd (cc)
exactly_that (j ∷ js) m h d = by (m == j) refl (exactly_that js m)
  where
    other : (j m : ℕ) (b : Bool) → (m == j) ≡ false → ((j == m) || b) ≡ true → b ≡ true
    other j m b e g = grind (arith, nat_tests, common_steps)

    by : (b : Bool) → (m == j) ≡ b → (is_among js m ≡ true → AreApart (λ j k. j == k) js → length (filter (λ j. m == j) js) ≡ 1) → length (cond b (j ∷ filter (λ k. m == k) js) (filter (λ k. m == k) js)) ≡ 1
    by true e rest = ap (λ ks. length (j ∷ ks)) (absent js m (ap (λ (x : ℕ). list_any (λ k. x == k) js) (number_is m j e) ∙ d.0))
    by false e rest = rest (other j m (is_among js m) e h) d.1

-- ---- the mode

-- the least mode is allowed
least_is_allowed : (kind : Counts) (on optional : Bool) (vis : ℕ) → allows_mode kind on optional vis (least_mode kind on optional vis) ≡ true
least_is_allowed counts.Bool on optional vis = by (vis == 0) optional
  where
    by : (n o : Bool) → cond (cond (n || o) 0 2 == 0) (n || o) (cond (cond (n || o) 0 2 == 1) (on && false) ((cond (n || o) 0 2 == 2) && not n)) ≡ true
    by true o = refl
    by false true = refl
    by false false = refl
least_is_allowed counts.Tristate on optional vis = by (vis == 0) refl optional on
  where
    by : (n : Bool) → (vis == 0) ≡ n → (o on : Bool) → cond (cond (n || o) 0 (cond on 1 2) == 0) (n || o) (cond (cond (n || o) 0 (cond on 1 2) == 1) (on && not n) ((cond (n || o) 0 (cond on 1 2) == 2) && cond on (vis == 2) (not n))) ≡ true
    by true e o on = refl
    by false e true on = refl
    by false e false true = refl
    by false e false false = refl
least_is_allowed counts.Neither on optional vis = by (vis == 0) optional
  where
    by : (n o : Bool) → cond (cond (n || o) 0 2 == 0) (n || o) (cond (cond (n || o) 0 2 == 1) (on && false) ((cond (n || o) 0 2 == 2) && not n)) ≡ true
    by true o = refl
    by false true = refl
    by false false = refl

-- ---- the members

-- the member that is picked can be y, and none is but in mode y
module _ (t : Shape) (made : IsWellMade t) (d : Configuration) (i : ℕ) where
  abbrev ms : List ℕ
  ms = (choice_at t i).members

  abbrev candidates : List ℕ
  candidates = named_by_defaults t d (choice_at t i).defaults ++ ms

  abbrev passes : ℕ → Bool
  passes = is_candidate t d i

  picked_is : (o : Option ℕ) (mode j : ℕ) → is_the (picked_at mode o) j ≡ true → ((mode == 2) ≡ true) × (o ≡ Some j)
  picked_is o mode j h = by (mode == 2) refl h
    where
      some : (q : Option ℕ) → is_the q j ≡ true → q ≡ Some j
      some None g = absurd (false≢true g)
      some (Some k) g = ap Some (number_is k j g)

      by : (b : Bool) → (mode == 2) ≡ b → is_the (cond b o None) j ≡ true → ((mode == 2) ≡ true) × (o ≡ Some j)
      by true e g = (e, some o g)
      by false e g = absurd (false≢true g)

  picked_can : (mode j : ℕ) → is_the (picked_at mode (find passes candidates)) j ≡ true → ((mode == 2) && can_be_y t d j) ≡ true
  picked_can mode j h = let r = picked_is (find passes candidates) mode j h in
      both_true (mode == 2) (can_be_y t d j) r.0 (and_right (is_the (symbol_at t j).member_of i) (can_be_y t d j) (found_passes passes candidates j r.1))

  -- members with the values that the rule gives keep to the mode
  one_keeps : (mode j : ℕ) → d.value j ≡ picked_value (picked_at mode (find passes candidates)) j → keeps_mode t d mode j ≡ true
  one_keeps mode j e = ap (λ (x : ℕ). cond (x == 2) ((mode == 2) && can_be_y t d j) (cond (x == 1) ((mode == 1) && can_be_m t d j) (x == 0))) e ∙ by (is_the (picked_at mode (find passes candidates)) j) refl
    where
      by : (b : Bool) → is_the (picked_at mode (find passes candidates)) j ≡ b → cond (cond b 2 0 == 2) ((mode == 2) && can_be_y t d j) (cond (cond b 2 0 == 1) ((mode == 1) && can_be_m t d j) (cond b 2 0 == 0)) ≡ true
      by true g = picked_can mode j g
      by false g = refl

  all_keep : (mode : ℕ) (js : List ℕ) → ((j : ℕ) → is_among js j ≡ true → d.value j ≡ picked_value (picked_at mode (find passes candidates)) j) → list_all (keeps_mode t d mode) js ≡ true
  all_keep mode [] h = refl
  all_keep mode (j ∷ js) h = both_true (keeps_mode t d mode j) (list_all (keeps_mode t d mode) js) (one_keeps mode j (h j (or_left (j == j) (is_among js j) (number_self j)))) (all_keep mode js (λ k g. h k (or_right (j == k) (is_among js k) g)))

  -- a member passes where it can be y
  member_passes : (j : ℕ) → is_among ms j ≡ true → passes j ≡ can_be_y t d j
  member_passes j h = ap (λ o. is_the o i && can_be_y t d j) (made.of_choice i j h) ∙ ap (λ b. b && can_be_y t d j) (number_self i)

  same_any : (js : List ℕ) → ((j : ℕ) → is_among js j ≡ true → is_among ms j ≡ true) → list_any passes js ≡ list_any (can_be_y t d) js
  same_any [] h = refl
  same_any (j ∷ js) h = rw (member_passes j (h j (or_left (j == j) (is_among js j) (number_self j))), same_any js (λ k g. h k (or_right (j == k) (is_among js k) g))) refl

  -- those that are y are those that are the one
  are_that : (m : ℕ) (js : List ℕ) → ((j : ℕ) → is_among js j ≡ true → d.value j ≡ picked_value (Some m) j) → filter (is_y d) js ≡ filter (λ j. m == j) js
  are_that m [] h = refl
  are_that m (j ∷ js) h = let rest = are_that m js (λ k g. h k (or_right (j == k) (is_among js k) g)) in
      (λ z. cond (here z) (j ∷ rest z) (rest z))
    where
      bit : (b : Bool) → (cond b 2 0 == 2) ≡ b
      bit true = refl
      bit false = refl

      here : is_y d j ≡ (m == j)
      here = ap (λ (x : ℕ). x == 2) (h j (or_left (j == j) (is_among js j) (number_self j))) ∙ bit (m == j)

  one_is : (mode : ℕ) → ((j : ℕ) → is_among ms j ≡ true → d.value j ≡ picked_value (picked_at mode (find passes candidates)) j) → has_one_y t d mode ms ≡ true
  one_is mode h = by (mode == 2) refl (list_any (can_be_y t d) ms) refl
    where
      found : (o : Option ℕ) → find passes candidates ≡ o → (mode == 2) ≡ true → list_any (can_be_y t d) ms ≡ true → (length (filter (is_y d) ms) == 1) ≡ true
      found None e f g = absurd (false≢true (sym (none_passes passes (named_by_defaults t d (choice_at t i).defaults) ms e) ∙ (same_any ms (λ j k. k) ∙ g)))
      found (Some m) e f g = let ok : passes m ≡ true = found_passes passes candidates m e in
          let there : is_the (symbol_at t m).member_of i ≡ true = and_left (is_the (symbol_at t m).member_of i) (can_be_y t d m) ok in
          let listed : is_among ms m ≡ true = made.listed i m (member_is (symbol_at t m).member_of there) in
          let picked : picked_at mode (find passes candidates) ≡ Some m = ap (λ b. cond b (find passes candidates) None) f ∙ e in
          ap (λ (x : ℕ). x == 1) (ap length (are_that m ms (λ j k. h j k ∙ ap (λ o. picked_value o j) picked)) ∙ exactly_that ms m listed (made.apart i))
        where
          member_is : (q : Option ℕ) → is_the q i ≡ true → q ≡ Some i
          member_is None k = absurd (false≢true k)
          member_is (Some x) k = ap Some (number_is x i k)

      by : (y : Bool) → (mode == 2) ≡ y → (some : Bool) → list_any (can_be_y t d) ms ≡ some → cond (y && some) (length (filter (is_y d) ms) == 1) true ≡ true
      by true f true g = found (find passes candidates) refl f g
      by true f false g = refl
      by false f some g = refl

  -- a choice with its free mode, whose members have the values that its rule gives, keeps its rules
  pub free_is_right : d.mode i ≡ free_mode t d i → ((j : ℕ) → is_among ms j ≡ true → d.value j ≡ picked_value (picked_of t d i) j) → IsRightChoice t d i
  free_is_right m h = choice_by_test t d i (both_true (has_allowed_mode t d i) (list_all (keeps_mode t d (d.mode i)) ms && has_one_y t d (d.mode i) ms)
      (ap (λ (x : ℕ). allows_mode (choice_counts t i) (has_modules t d) (choice_at t i).optional (choice_visibility_of t d i) x) m ∙ least_is_allowed (choice_counts t i) (has_modules t d) (choice_at t i).optional (choice_visibility_of t d i))
      (both_true (list_all (keeps_mode t d (d.mode i)) ms) (has_one_y t d (d.mode i) ms) (all_keep (d.mode i) ms given) (one_is (d.mode i) given)))
    where
      given : (j : ℕ) → is_among ms j ≡ true → d.value j ≡ picked_value (picked_at (d.mode i) (find passes candidates)) j
      given j g = h j g ∙ ap (λ (x : ℕ). picked_value (picked_at x (find passes candidates)) j) (sym m)
