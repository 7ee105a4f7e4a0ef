-- Configurations that are the same in a tree keep its rules alike.
use Rattle.std.proofs.Common.{◌≡◌, ℕ, ◌<◌, ◌≤◌, subst, ◌==◌, Bool, not, ◌&&◌, ◌||◌, cond, List, [], ◌∷◌, ◌++◌, length, refl, ap, sym, ◌∙◌, Option}
use Rattle.std.specs.List.{flat_map, list_any, Contains, AllByRecursion}
use Rattle.std.proofs.lemmas.List.Elements.{All-contains_itself, recursion_from_All}
use Rattle.kconf_entries.specs.declared.entries.DefaultOf.{DefaultOf}
use Rattle.kconf_tree.specs.Shape.{Shape, symbol_at, choice_at, is_member}
use Rattle.kconf_tree.specs.declared.place.Place.TheVariants.{Condition, Value}
use Rattle.kconf_tree.specs.Value.{Configuration, value_of, is_text_or_number}
use Rattle.kconf_tree.specs.Undeclared.{undeclared_in, undeclared_of_default, undeclared_of}
use Rattle.kconf_tree.specs.Properties.{visibility_of, is_written}
use Rattle.kconf_tree.specs.Valid.{HasValueBy, IsRightChoice, KeepsRules}
use Rattle.kconf_tree.specs.References.{numbers_in, of_default, own_references, symbol_references, choice_references}
use Rattle.kconf_tree.specs.WellMade.{is_among, IsWellMade}
use Rattle.kconf_tree.specs.Looks.{AreSameIn}
use Rattle.kconf_tree.proofs.MadeLaws.{member_within}
use Rattle.kconf_tree.proofs.ReferenceLaws.{AllBelow, own_below, symbol_below, choice_below}
use Rattle.kconf_tree.proofs.RightChoices.{choice_by_test, test_by_choice}
use Rattle.kconf_tree.proofs.ValueLaws.{Agree, Names, agree_left, agree_right, names_left, names_right, value_same}
use Rattle.kconf_tree.proofs.LookLaws.{AlikeIn, of_symbol, in_defaults, own_front, defaults_of, prompts_of, visibility_same, calculated_same, choice_stays}

each_of : {X : Type 0} (P Q : X → Type 0) → ((x : X) → P x → Q x) → (xs : List X) → AllByRecursion P xs → AllByRecursion Q xs
each_of P Q f [] h = tt
each_of P Q f (x ∷ xs) h = (f x h.0, each_of P Q f xs h.1)

module _ (t : Shape) (made : IsWellMade t) (c d : Configuration) (same : AreSameIn t c d) where
  pub same_alike : AlikeIn t c d
  same_alike = record {
    outer = same.outers;
    names = each_of (Contains (undeclared_of t)) (λ name. c.undeclared name ≡ d.undeclared name) same.undeclared (undeclared_of t)
        (recursion_from_All (Contains (undeclared_of t)) (undeclared_of t) (All-contains_itself (undeclared_of t)));
  }

  pub same_at : (ks : List ℕ) → AllBelow t made ks → Agree c d ks
  same_at [] h = tt
  same_at (k ∷ ks) h = (same.values k h.0, same_at ks h.1)

  own_at : (k : ℕ) → Agree c d (own_references t k)
  own_at k = same_at (own_references t k) (own_below t made k)

  value_by : (k : ℕ) (u : Option ℕ) → k < length t.symbols → HasValueBy t c u k → HasValueBy t d u k
  value_by k u lt h = (h.0, sym (calculated_same t c d same_alike k (same_at (symbol_references t k) (symbol_below t made k)) u) ∙ (h.1 ∙ same.values k lt))

  pub choice_same : (i : ℕ) → i < length t.choices → IsRightChoice t c i → IsRightChoice t d i
  choice_same i lt r = choice_by_test t d i (choice_stays t c d same_alike i (same.modes i lt) (λ j h. same.values j (member_within t made i j h)) (same_at (choice_references t i) (choice_below t made i)) (test_by_choice t c i r))

  pub rules_same : KeepsRules t c → KeepsRules t d
  rules_same r = record {
    values = λ k lt. subst (λ (x : ℕ). x ≤ 2) (same.values k lt) (r.values k lt);
    setting = r.setting;
    calculated = record { gives = λ k lt own. value_by k (r.setting k) lt (r.calculated.gives k lt own) };
    choices = λ i lt. choice_same i lt (r.choices i lt);
  }

  -- ---- whether a symbol of texts or numbers is written

  some_same : (ds : List DefaultOf) → Agree c d (flat_map (of_default t) ds) → Names c d (flat_map (undeclared_of_default t) ds)
      → list_any (λ (e : DefaultOf). not (value_of t c e.cond == 0)) ds ≡ list_any (λ (e : DefaultOf). not (value_of t d e.cond == 0)) ds
  some_same [] h n = refl
  some_same (e ∷ ds) h n = let here = agree_left c d (of_default t e) (flat_map (of_default t) ds) h in
      let own = names_left c d (undeclared_of_default t e) (flat_map (undeclared_of_default t) ds) n in
      let one = value_same t c d same.outers Condition e.cond (agree_left c d (numbers_in t Condition e.cond) (numbers_in t Value e.value) here) (names_right c d (undeclared_in t e.value) (undeclared_in t e.cond) own) in
      let more = some_same ds (agree_right c d (of_default t e) (flat_map (of_default t) ds) h) (names_right c d (undeclared_of_default t e) (flat_map (undeclared_of_default t) ds) n) in
      λ i. not (one i == 0) || more i

  pub written_same : (k : ℕ) → is_written t c k ≡ is_written t d k
  written_same k = let vis = visibility_same t c d same_alike k (own_at k) in
      let some = some_same (symbol_at t k).defaults (agree_right c d (prompts_of t c d same_alike k) (defaults_of t c d same_alike k) (own_front t c d same_alike k (own_at k))) (in_defaults t c d same_alike (symbol_at t k) (of_symbol t c d same_alike k)) in
      λ i. is_text_or_number (symbol_at t k).kind && (not (vis i == 0) || some i)
