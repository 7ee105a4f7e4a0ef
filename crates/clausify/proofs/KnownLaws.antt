-- A test of each item of a list tells what is so of every item that the list has.
use Rattle.std.proofs.Common.{◌≡◌, Bool, true, false, ◌||◌, ◌&&◌, List, [], ◌∷◌, ◌++◌, IsTrue, ◌↔◌, map, refl, sym, ap, ◌∙◌, ◌⊎◌, inl, inr, ⊎_elim}
use Rattle.std.proofs.lemmas.Bool.{false≢true}
use Rattle.std.proofs.lemmas.Cmp.{eq_by_cmp_equiv}
use Rattle.std.specs.List.{list_all}
use Rattle.ut_logic.specs.declared.item.Item.{Item}
use Rattle.ut_logic.specs.declared.facts.Fact.{Fact}
use Rattle.ut_logic.specs.declared.formula.Formula.{Formula}
use Rattle.ut_logic.specs.Assign.{is_in}
use Rattle.ut_logic.specs.Item.{item_eq, item_total}
use Rattle.ut_logic.specs.ItemIdentity.{item_eq-Decides}
use Rattle.ut_logic.specs.Truth.{mentioned, together}
use Rattle.clausify.specs.Order.{mentioned_in, items_of, is_outer, AreListed, AreOver, IsWishOver}
use Rattle.std.proofs.lemmas.List.Folds.{list_any-append}
use Rattle.clausify.proofs.WaysLaws.{and_first, and_second, and_both}
use Rattle.clausify.proofs.OverLaws.{in_front, in_back}

each_has : (p : Item → Bool) (xs : List Item) → list_all p xs ≡ true → (i : Item) → is_in xs i ≡ true → p i ≡ true
each_has p [] h i g = absurd (false≢true g)
each_has p (x ∷ xs) h i g = by (item_eq x i) refl g (each_has p xs (and_second (p x) (list_all p xs) h) i)
  where
    by : (b : Bool) → item_eq x i ≡ b → (b || is_in xs i) ≡ true → (is_in xs i ≡ true → p i ≡ true) → p i ≡ true
    by true e k r = ap p (sym ((item_eq-Decides x i).0 e)) ∙ and_first (p x) (list_all p xs) h
    by false e k r = r k

has_each : (p : Item → Bool) (xs : List Item) → ((i : Item) → is_in xs i ≡ true → p i ≡ true) → list_all p xs ≡ true
has_each p [] h = refl
has_each p (x ∷ xs) h = and_both (p x) (list_all p xs) (h x (ap (λ b. b || is_in xs x) ((eq_by_cmp_equiv item_total).refl x))) (has_each p xs (λ i g. h i (second (item_eq x i) (is_in xs i) g)))
  where
    second : (a b : Bool) → b ≡ true → (a || b) ≡ true
    second true b h = refl
    second false b h = h

either : (a b : Bool) → (a || b) ≡ true → (a ≡ true) ⊎ (b ≡ true)
either true b h = inl refl
either false b h = inr h

-- the tests of what facts, held formulas and a wish mention tell whether all of it is listed
pub told : (fs : List Fact) (held wish : List Formula) (known mentions wishes : List Item) → ((i : Item) → is_in known i ≡ is_in (items_of fs) i) → mentions ≡ mentioned_in fs ++ together (map mentioned held) → wishes ≡ together (map mentioned wish)
    → (b : Bool) → b ≡ (list_all (λ i. is_in known i) mentions && list_all (λ i. is_in known i || is_outer i) wishes) → IsTrue b ↔ (AreListed fs × (AreOver (items_of fs) held × IsWishOver fs wish))
told fs held wish known mentions wishes same is_mentions is_wishes b is = (
  λ t. let both = sym is ∙ t in
      let here : (i : Item) → is_in (mentioned_in fs ++ together (map mentioned held)) i ≡ true → is_in (items_of fs) i ≡ true = λ i h.
      sym (same i) ∙ each_has (λ i. is_in known i) mentions (and_first _ (list_all (λ i. is_in known i || is_outer i) wishes) both) i (ap (λ xs. is_in xs i) is_mentions ∙ h) in (
        λ i h. here i (in_front (mentioned_in fs) (together (map mentioned held)) i h),
        (
          λ i h. here i (in_back (mentioned_in fs) (together (map mentioned held)) i h),
          λ i h. ap (λ a. a || is_outer i) (sym (same i)) ∙ each_has (λ i. is_in known i || is_outer i) wishes (and_second (list_all (λ i. is_in known i) mentions) _ both) i (ap (λ xs. is_in xs i) is_wishes ∙ h),
        ),
      ),
  λ l. is ∙ and_both (list_all (λ i. is_in known i) mentions) (list_all (λ i. is_in known i || is_outer i) wishes)
      (has_each (λ i. is_in known i) mentions (λ i h. same i ∙ listed l.0 l.1.0 i (sym (ap (λ xs. is_in xs i) is_mentions) ∙ h)))
      (has_each (λ i. is_in known i || is_outer i) wishes (λ i h. ap (λ a. a || is_outer i) (same i) ∙ l.1.1 i (sym (ap (λ xs. is_in xs i) is_wishes) ∙ h))),
)
  where
    listed : AreListed fs → AreOver (items_of fs) held → (i : Item) → is_in (mentioned_in fs ++ together (map mentioned held)) i ≡ true → is_in (items_of fs) i ≡ true
    listed facts over i h = ⊎_elim (facts i) (over i) (either (is_in (mentioned_in fs) i) (is_in (together (map mentioned held)) i) (sym (list_any-append (λ x. item_eq x i) (mentioned_in fs) (together (map mentioned held))) ∙ h))

-- and that of what one list of formulas mentions
pub told_among : (fs : List Formula) (known mentions : List Item) → mentions ≡ together (map mentioned fs) → (b : Bool) → b ≡ list_all (λ i. is_in known i) mentions → IsTrue b ↔ AreOver known fs
told_among fs known mentions is_mentions b is = (
  λ t i h. each_has (λ i. is_in known i) mentions (sym is ∙ t) i (ap (λ xs. is_in xs i) is_mentions ∙ h),
  λ over. is ∙ has_each (λ i. is_in known i) mentions (λ i h. over i (sym (ap (λ xs. is_in xs i) is_mentions) ∙ h)),
)

-- no formulas mention nothing
pub none_held : (items : List Item) → AreOver items []
none_held items i h = absurd (false≢true h)
