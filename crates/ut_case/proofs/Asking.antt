-- What the questions on a block ask of a case, and what their answers over valid configurations say of the block.
use Rattle.std.proofs.Common.{◌≡◌, ◌↔◌, Bool, true, false, not, ◌&&◌, refl, ap, sym, ◌∙◌}
use Rattle.std.proofs.lemmas.Bool.{false≢true}
use Rattle.ut_logic.specs.declared.formula.Formula.TheVariants.{Is, Neg}
use Rattle.ut_logic.specs.declared.item.Item.TheVariants as item
use Rattle.ut_logic.specs.Truth.{truth}
use Rattle.ut_logic.proofs.FoldLaws.{truth-Neg, truth-Is}
use Rattle.ut_case.specs.declared.question.Ask.TheVariants.{Selected, Dropped}
use Rattle.ut_case.specs.declared.question.BlockId.{BlockId}
use Rattle.ut_case.specs.declared.question.Family.{Family}
use Rattle.ut_case.specs.declared.question.Family.TheVariants.{Whole}
use Rattle.ut_case.specs.Cases.{Case}
use Rattle.ut_case.specs.Items.{item_truth}
use Rattle.ut_case.specs.On.{is_on, parent_in}
use Rattle.ut_case.specs.Problem.{Problem}
use Rattle.ut_case.specs.Questions.{meets, question_on, CanBe, CanNotBe}
use Rattle.ut_case.specs.Verdicts.{IsDead, IsUndead, IsLive}

-- a truth with nothing beside it
and_true : (a : Bool) → (a && true) ≡ a
and_true true = refl
and_true false = refl

module _ (p : Problem) (b : BlockId) where
  -- the block is on
  pub selected_met : (f : Family) (x : Case) → meets p (question_on p b f Selected) x ≡ is_on p f x b
  selected_met f x = and_true (is_on p f x b)

  -- the formula says that the block is off
  off_met : (f : Family) (x : Case) → truth (item_truth p f x) (Neg (Is (item.Block b.file b.block))) ≡ not (is_on p f x b)
  off_met f x = truth-Neg (item_truth p f x) (Is (item.Block b.file b.block)) ∙ ap not (truth-Is (item_truth p f x) (item.Block b.file b.block))

  -- its parent is on, and it isn't
  pub dropped_met : (f : Family) (x : Case) → meets p (question_on p b f Dropped) x ≡ (is_on p f x (parent_in p b) && not (is_on p f x b))
  dropped_met f x = ap (λ c. is_on p f x (parent_in p b) && c) (and_true (truth (item_truth p f x) (Neg (Is (item.Block b.file b.block)))) ∙ off_met f x)

  -- where not dropped, on as the parent is
  on_of : (around own : Bool) → (around && not own) ≡ false → around ≡ true → own ≡ true
  on_of true true h e = refl
  on_of true false h e = absurd (false≢true (sym h))
  on_of false own h e = absurd (false≢true e)

  -- and the other way round
  of_on : (around own : Bool) → (around ≡ true → own ≡ true) → (around && not own) ≡ false
  of_on true own h = ap not (h refl)
  of_on false own h = refl

  -- no case selects it
  pub dead_is : CanNotBe p (question_on p b Whole Selected) ↔ IsDead p b
  dead_is = (λ n x v. sym (selected_met Whole x) ∙ n x v, λ d x v. selected_met Whole x ∙ d x v)

  -- some case selects it, and none drops it
  pub undead_is : (CanBe p (question_on p b Whole Selected) × CanNotBe p (question_on p b Whole Dropped)) ↔ IsUndead p b
  undead_is = (
    λ h. record {
      selected = record { witness = h.0.witness; belongs = h.0.belongs; held = sym (selected_met Whole h.0.witness) ∙ h.0.held };
      on = λ x v around. on_of (is_on p Whole x (parent_in p b)) (is_on p Whole x b) (sym (dropped_met Whole x) ∙ h.1 x v) around;
    },
    λ u. (
      record { witness = u.selected.witness; belongs = u.selected.belongs; held = selected_met Whole u.selected.witness ∙ u.selected.held },
      λ x v. dropped_met Whole x ∙ of_on (is_on p Whole x (parent_in p b)) (is_on p Whole x b) (u.on x v),
    ),
  )

  -- some case selects it, and some drops it
  pub live_is : (CanBe p (question_on p b Whole Selected) × CanBe p (question_on p b Whole Dropped)) ↔ IsLive p b
  live_is = (
    λ h. record {
      selected = record { witness = h.0.witness; belongs = h.0.belongs; held = sym (selected_met Whole h.0.witness) ∙ h.0.held };
      dropped = record { witness = h.1.witness; belongs = h.1.belongs; held = sym (dropped_met Whole h.1.witness) ∙ h.1.held };
    },
    λ l. (
      record { witness = l.selected.witness; belongs = l.selected.belongs; held = selected_met Whole l.selected.witness ∙ l.selected.held },
      record { witness = l.dropped.witness; belongs = l.dropped.belongs; held = dropped_met Whole l.dropped.witness ∙ l.dropped.held },
    ),
  )
