-- A renamed formula is true where the formula is true of the new items, and mentions the new items.
use Rattle.std.proofs.Common.{◌≡◌, Bool, not, List, [], ◌∷◌, ◌++◌, refl, sym, ap, ◌∙◌, subst, map}
use Rattle.std.proofs.lemmas.List.{map-append}
use Rattle.ut_logic.specs.declared.item.Item.{Item}
use Rattle.ut_logic.specs.declared.formula.Formula.{Formula}
use Rattle.ut_logic.specs.declared.formula.Formula.TheOpen.{Formula-F}
use Rattle.ut_logic.specs.declared.formula.Formula.TheFolds.{fold-roll-Formula, ind-Formula, map-Formula}
use Rattle.ut_logic.specs.declared.formula.Formula.TheViews.{roll-Formula}
use Rattle.ut_logic.specs.Truth.{truth, truths, truth_step, all_true, any_true, mentioned, mention_step, together}
use Rattle.ut_logic.specs.Renaming.{renamed, rename_step}
use Rattle.ut_logic.proofs.FoldLaws.{truth-Yes, truth-No, truth-Is, truth-Neg, truth-AllOf, truth-AnyOf}
use Rattle.ut_logic.proofs.MentionLaws.{mentioned-Yes, mentioned-No, mentioned-Is, mentioned-Neg, mentioned-AllOf, mentioned-AnyOf}

module _ (r : Item → Item) (v : Item → Bool) where
  -- the truth of an item under its new name
  abbrev after : Item → Bool
  after item = v (r item)

  each_alike : (ps : List ((f : Formula) × (truth v (renamed r f) ≡ truth after f))) → truths v (map (renamed r) (map (λ p. p.0) ps)) ≡ truths after (map (λ p. p.0) ps)
  each_alike [] = refl
  each_alike (p ∷ ps) = λ i. p.1 i ∷ each_alike ps i

  alike : (y : Formula-F ((f : Formula) × (truth v (renamed r f) ≡ truth after f)))
      → truth v (rename_step r (map-Formula Formula Formula (renamed r) (map-Formula _ Formula (λ p. p.0) y))) ≡ truth_step after (map-Formula Formula Bool (truth after) (map-Formula _ Formula (λ p. p.0) y))
  alike Formula-F.Yes = truth-Yes v
  alike Formula-F.No = truth-No v
  alike (Formula-F.Is item) = truth-Is v (r item)
  alike (Formula-F.Neg p) = truth-Neg v (renamed r p.0) ∙ ap not p.1
  alike (Formula-F.AllOf ps) = truth-AllOf v (map (renamed r) (map (λ p. p.0) ps)) ∙ ap all_true (each_alike ps)
  alike (Formula-F.AnyOf ps) = truth-AnyOf v (map (renamed r) (map (λ p. p.0) ps)) ∙ ap any_true (each_alike ps)

  rolled : (x : Formula-F Formula) → truth v (rename_step r (map-Formula Formula Formula (renamed r) x)) ≡ truth_step after (map-Formula Formula Bool (truth after) x)
      → truth v (renamed r (roll-Formula x)) ≡ truth after (roll-Formula x)
  rolled x h = ap (truth v) (fold-roll-Formula Formula (rename_step r) x) ∙ (h ∙ sym (fold-roll-Formula Bool (truth_step after) x))

  -- a renamed formula has the truth of the formula over the truths of the new items
  pub truth-renamed : (f : Formula) → truth v (renamed r f) ≡ truth (λ item. v (r item)) f
  truth-renamed = ind-Formula (λ f. truth v (renamed r f) ≡ truth after f)
      (λ x y is. rolled x (subst (λ (z : Formula-F Formula). truth v (rename_step r (map-Formula Formula Formula (renamed r) z)) ≡ truth_step after (map-Formula Formula Bool (truth after) z)) is (alike y)))

map_together : (r : Item → Item) (lists : List (List Item)) → together (map (map r) lists) ≡ map r (together lists)
map_together r [] = refl
map_together r (items ∷ lists) = ap (λ more. map r items ++ more) (map_together r lists) ∙ sym (map-append r items (together lists))

module _ (r : Item → Item) where
  each_mention : (ps : List ((f : Formula) × (mentioned (renamed r f) ≡ map r (mentioned f)))) → map mentioned (map (renamed r) (map (λ p. p.0) ps)) ≡ map (map r) (map mentioned (map (λ p. p.0) ps))
  each_mention [] = refl
  each_mention (p ∷ ps) = λ i. p.1 i ∷ each_mention ps i

  together_mention : (ps : List ((f : Formula) × (mentioned (renamed r f) ≡ map r (mentioned f)))) → together (map mentioned (map (renamed r) (map (λ p. p.0) ps))) ≡ map r (together (map mentioned (map (λ p. p.0) ps)))
  together_mention ps = ap together (each_mention ps) ∙ map_together r (map mentioned (map (λ p. p.0) ps))

  mention_alike : (y : Formula-F ((f : Formula) × (mentioned (renamed r f) ≡ map r (mentioned f))))
      → mentioned (rename_step r (map-Formula Formula Formula (renamed r) (map-Formula _ Formula (λ p. p.0) y))) ≡ map r (mention_step (map-Formula Formula (List Item) mentioned (map-Formula _ Formula (λ p. p.0) y)))
  mention_alike Formula-F.Yes = mentioned-Yes
  mention_alike Formula-F.No = mentioned-No
  mention_alike (Formula-F.Is item) = mentioned-Is (r item)
  mention_alike (Formula-F.Neg p) = mentioned-Neg (renamed r p.0) ∙ p.1
  mention_alike (Formula-F.AllOf ps) = mentioned-AllOf (map (renamed r) (map (λ p. p.0) ps)) ∙ together_mention ps
  mention_alike (Formula-F.AnyOf ps) = mentioned-AnyOf (map (renamed r) (map (λ p. p.0) ps)) ∙ together_mention ps

  mention_rolled : (x : Formula-F Formula) → mentioned (rename_step r (map-Formula Formula Formula (renamed r) x)) ≡ map r (mention_step (map-Formula Formula (List Item) mentioned x))
      → mentioned (renamed r (roll-Formula x)) ≡ map r (mentioned (roll-Formula x))
  mention_rolled x h = ap mentioned (fold-roll-Formula Formula (rename_step r) x) ∙ (h ∙ ap (map r) (sym (fold-roll-Formula (List Item) mention_step x)))

  -- a renamed formula mentions the new items, in the same order
  pub mentioned-renamed : (f : Formula) → mentioned (renamed r f) ≡ map r (mentioned f)
  mentioned-renamed = ind-Formula (λ f. mentioned (renamed r f) ≡ map r (mentioned f))
      (λ x y is. mention_rolled x (subst (λ (z : Formula-F Formula). mentioned (rename_step r (map-Formula Formula Formula (renamed r) z)) ≡ map r (mention_step (map-Formula Formula (List Item) mentioned z))) is (mention_alike y)))
