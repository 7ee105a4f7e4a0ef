-- What a choice has without a user's setting depends on what it refers to alone.
use Rattle.std.proofs.Common.{◌≡◌, ℕ, ◌==◌, Bool, true, false, not, ◌&&◌, ◌||◌, cond, List, [], ◌∷◌, ◌++◌, refl, ap, sym, ◌∙◌, Option, None, Some, inl, inr}
use Rattle.std.proofs.lemmas.Bool.{false≢true}
use Rattle.std.specs.List.{find, flat_map}
use Rattle.std.specs.Option.{option_to_list}
use Rattle.kconf_entries.specs.declared.entries.SelectOf.{SelectOf}
use Rattle.kconf_tree.specs.declared.shape.Counts.{Counts}
use Rattle.kconf_tree.specs.declared.shape.Counts.TheVariants as counts
use Rattle.kconf_tree.specs.Shape.{Shape, symbol_at, choice_at, is_the, number_of, counts_alone}
use Rattle.kconf_tree.specs.declared.place.Place.TheVariants.{Condition}
use Rattle.kconf_tree.specs.Value.{Configuration, value_of, has_modules}
use Rattle.kconf_tree.specs.Properties.{choice_visibility_of}
use Rattle.kconf_tree.specs.Valid.{can_be_y}
use Rattle.kconf_tree.specs.Undeclared.{undeclared_in, undeclared_of_conditions}
use Rattle.kconf_tree.specs.References.{numbers_in, of_choice_default, picked_outside, choice_references}
use Rattle.kconf_tree.specs.WellMade.{is_among, IsWellMade}
use Rattle.complete_conf.specs.Free.{least_mode, free_mode, named_by_defaults, is_candidate, candidate_of, picked_at, picked_of}
use Rattle.kconf_tree.proofs.Small.{or_cases, number_is}
use Rattle.kconf_tree.proofs.ValueLaws.{Agree, Names, agree_left, agree_right, names_left, names_right, value_same}
use Rattle.kconf_tree.proofs.LookLaws.{AlikeIn, SameOn, modules_same, of_choice, to_picks, cans_same, choice_modules, choice_visibility_same}

same_among : (p q : ℕ → Bool) (js : List ℕ) → SameOn p q js → (j : ℕ) → is_among js j ≡ true → p j ≡ q j
same_among p q [] h j a = absurd (false≢true a)
same_among p q (k ∷ ks) h j a = elim (or_cases (k == j) (is_among ks j) a) [
  | inl here ↦ ap p (sym (number_is k j here)) ∙ (h.0 ∙ ap q (number_is k j here))
  | inr there ↦ same_among p q ks h.1 j there
]

module _ (t : Shape) (made : IsWellMade t) (c d : Configuration) (alike : AlikeIn t c d) where
  least_same : (kind : Counts) (optional : Bool) (vis : ℕ) → modules_same t c d alike kind → least_mode kind (has_modules t c) optional vis ≡ least_mode kind (has_modules t d) optional vis
  least_same counts.Bool optional vis h = refl
  least_same counts.Tristate optional vis h = ap (λ on. least_mode counts.Tristate on optional vis) h
  least_same counts.Neither optional vis h = refl

  named_same : (i : ℕ) (ds : List SelectOf) → Agree c d (flat_map (of_choice_default t i) ds) → Names c d (undeclared_of_conditions t ds) → named_by_defaults t c ds ≡ named_by_defaults t d ds
  named_same i [] h n = refl
  named_same i (e ∷ ds) h n = let here = agree_left c d (of_choice_default t i e) (flat_map (of_choice_default t i) ds) h in
      let one = value_same t c d alike.outer Condition e.cond (agree_right c d (picked_outside t i (number_of t e.target)) (numbers_in t Condition e.cond) here) (names_left c d (undeclared_in t e.cond) (undeclared_of_conditions t ds) n) in
      let more = named_same i ds (agree_right c d (of_choice_default t i e) (flat_map (of_choice_default t i) ds) h) (names_right c d (undeclared_in t e.cond) (undeclared_of_conditions t ds) n) in
      λ z. cond (one z == 0) (more z) (option_to_list (number_of t e.target) ++ more z)

  module _ (i : ℕ) (all : Agree c d (choice_references t i)) where
    pub free_mode_same : free_mode t c i ≡ free_mode t d i
    free_mode_same = ap (least_mode (counts_alone (choice_at t i).kind) (has_modules t c) (choice_at t i).optional) (choice_visibility_same t c d alike i all)
        ∙ least_same (counts_alone (choice_at t i).kind) (choice_at t i).optional (choice_visibility_of t d i) (choice_modules t c d alike i all)

    candidate_same : (j : ℕ) → is_candidate t c i j ≡ is_candidate t d i j
    candidate_same j = by (symbol_at t j).member_of refl
      where
        by : (o : Option ℕ) → (symbol_at t j).member_of ≡ o → (is_the o i && can_be_y t c j) ≡ (is_the o i && can_be_y t d j)
        by None e = refl
        by (Some h) e = here (h == i) refl
          where
            here : (b : Bool) → (h == i) ≡ b → (b && can_be_y t c j) ≡ (b && can_be_y t d j)
            here true f = same_among (can_be_y t c) (can_be_y t d) (choice_at t i).members (cans_same t c d alike i all) j (made.listed i j (e ∙ ap Some (number_is h i f)))
            here false f = refl

    named_all : named_by_defaults t c (choice_at t i).defaults ≡ named_by_defaults t d (choice_at t i).defaults
    named_all = named_same i (choice_at t i).defaults (to_picks t c d alike i all)
        (names_right c d (flat_map (undeclared_in t) (choice_at t i).prompts) (undeclared_of_conditions t (choice_at t i).defaults) (of_choice t c d alike i))

    pub picked_same : picked_of t c i ≡ picked_of t d i
    picked_same = let mode = free_mode_same in let names = named_all in let test = candidate_same in
        λ z. picked_at (mode z) (find (λ j. test j z) (names z ++ (choice_at t i).members))
