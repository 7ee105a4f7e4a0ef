-- What holds of each item that formulas mention.
use Rattle.std.proofs.Common.{◌≡◌, Bool, true, false, ◌||◌, List, [], ◌∷◌, ◌++◌, map, refl, ap, sym, subst, ◌∙◌}
use Rattle.std.proofs.lemmas.Bool.{false≢true}
use Rattle.std.proofs.lemmas.List.Folds.{list_any-append}
use Rattle.ut_logic.specs.declared.item.Item.{Item}
use Rattle.ut_logic.specs.declared.formula.Formula.{Formula}
use Rattle.ut_logic.specs.declared.formula.Formula.TheVariants.{Yes, No, Is}
use Rattle.ut_logic.specs.Assign.{is_in}
use Rattle.ut_logic.specs.Fold.{all_of, any_of, not_of}
use Rattle.ut_logic.specs.Item.{item_eq}
use Rattle.ut_logic.specs.ItemIdentity.{item_eq-Decides}
use Rattle.ut_logic.specs.Truth.{mentioned, together}
use Rattle.ut_logic.proofs.MentionLaws.{mentioned-Yes, mentioned-No, mentioned-Is, mentioned-all_of, mentioned-any_of, mentioned-not_of}

-- P holds of each item of a list, of each that a formula mentions, and of each that several do
abbrev pub Has : (Item → Type 0) → List Item → Type 0
Has P xs = (i : Item) → is_in xs i ≡ true → P i

abbrev pub Says : (Item → Type 0) → Formula → Type 0
Says P f = (i : Item) → is_in (mentioned f) i ≡ true → P i

abbrev pub Say : (Item → Type 0) → List Formula → Type 0
Say P fs = (i : Item) → is_in (together (map mentioned fs)) i ≡ true → P i

module _ (P : Item → Type 0) where
  pub has_none : Has P []
  has_none i h = absurd (false≢true h)

  pub has_more : (x : Item) (xs : List Item) → P x → Has P xs → Has P (x ∷ xs)
  has_more x xs p rest i h = by (item_eq x i) refl h
    where
      by : (b : Bool) → item_eq x i ≡ b → (b || is_in xs i) ≡ true → P i
      by true e g = subst P ((item_eq-Decides x i).0 e) p
      by false e g = rest i g

  pub has_both : (xs ys : List Item) → Has P xs → Has P ys → Has P (xs ++ ys)
  has_both xs ys f g i m = by (is_in xs i) refl (sym (list_any-append (λ x. item_eq x i) xs ys) ∙ m)
    where
      by : (b : Bool) → is_in xs i ≡ b → (b || is_in ys i) ≡ true → P i
      by true e k = f i e
      by false e k = g i k

  pub says_no : Says P No
  says_no i h = absurd (false≢true (sym (ap (λ xs. is_in xs i) mentioned-No) ∙ h))

  pub says_yes : Says P Yes
  says_yes i h = absurd (false≢true (sym (ap (λ xs. is_in xs i) mentioned-Yes) ∙ h))

  pub says_is : (x : Item) → P x → Says P (Is x)
  says_is x p i h = has_more x [] p has_none i (sym (ap (λ xs. is_in xs i) (mentioned-Is x)) ∙ h)

  pub says_not : (f : Formula) → Says P f → Says P (not_of f)
  says_not f h i m = h i (sym (ap (λ xs. is_in xs i) (mentioned-not_of f)) ∙ m)

  pub say_none : Say P []
  say_none i h = absurd (false≢true h)

  pub say_more : (f : Formula) (fs : List Formula) → Says P f → Say P fs → Say P (f ∷ fs)
  say_more f fs h g = has_both (mentioned f) (together (map mentioned fs)) h g

  pub says_all : (fs : List Formula) → Say P fs → Says P (all_of fs)
  says_all fs h i g = h i (mentioned-all_of fs i g)

  pub says_any : (fs : List Formula) → Say P fs → Says P (any_of fs)
  says_any fs h i g = h i (mentioned-any_of fs i g)

  pub says_both : (f g : Formula) → Says P f → Says P g → Say P (f ∷ g ∷ [])
  says_both f g h k = say_more f (g ∷ []) h (say_more g [] k say_none)
