-- A configuration is valid where each symbol is right and each choice keeps its rules, and only there.
use Rattle.std.proofs.Common.{◌≡◌, ◌<◌, ℕ, true, false, List, length}
use Rattle.kconf_tree.specs.Shape.{Shape, is_member}
use Rattle.kconf_tree.specs.Value.{Configuration, HasValues}
use Rattle.kconf_tree.specs.Valid.{IsValid}
use Rattle.kconf_tree.specs.Right.{IsRight, is_right_choice}
use Rattle.kconf_tree.proofs.RightChoices.{choice_by_test, test_by_choice}
use Rattle.kconf_tree.proofs.RightLaws.{setting_from_right}

module _ (t : Shape) (c : Configuration) where
  pub valid_from : ((name : List ℕ) → c.undeclared name ≡ false) → HasValues c → ((k : ℕ) → k < length t.symbols → is_member t k ≡ false → IsRight t c k) → ((i : ℕ) → i < length t.choices → is_right_choice t c i ≡ true) → IsValid t c
  valid_from names small right choices = let setting = setting_from_right t c right in
      record { rules = record { values = λ k l. small k; setting = setting.0; calculated = setting.1; choices = λ i l. choice_by_test t c i (choices i l) }; undeclared_are_n = names }

  pub right_from : IsValid t c → (k : ℕ) → k < length t.symbols → is_member t k ≡ false → IsRight t c k
  right_from v k l own = (v.rules.setting k, v.rules.calculated.gives k l own)

  pub choices_from : IsValid t c → (i : ℕ) → i < length t.choices → is_right_choice t c i ≡ true
  choices_from v i l = test_by_choice t c i (v.rules.choices i l)
