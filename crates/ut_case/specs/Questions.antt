-- Questions: a family and a list of wishes, and which cases meet them. Selected wishes the block; Dropped wishes its
-- parent and that the block is off; On and Off wish that a symbol isn't n, or is; Holds wishes a formula.
-- Rule: the EuroSys 2011 paper on Undertaker (selected and dropped blocks); joint wishes are this project's rule.
use Rattle.std.specs.Prelude.{◌≡◌, Bool, true, false, not, List, [], ◌∷◌}
use Rattle.std.specs.List.{list_all}
use Rattle.ut_logic.specs.declared.item.Item.TheVariants as item
use Rattle.ut_logic.specs.declared.node.Node.TheVariants as node
use Rattle.ut_logic.specs.declared.formula.Formula.TheVariants.{Is, Neg}
use Rattle.ut_logic.specs.Truth.{truth}
use Rattle.ut_case.specs.declared.question.Family.{Family}
use Rattle.ut_case.specs.declared.question.Ask.{Ask}
use Rattle.ut_case.specs.declared.question.Ask.TheVariants.{Selected, Dropped}
use Rattle.ut_case.specs.declared.question.BlockId.{BlockId}
use Rattle.ut_case.specs.declared.question.Question as block
use Rattle.ut_case.specs.declared.wish.Wish.{Wish}
use Rattle.ut_case.specs.declared.wish.Wish.TheVariants as wish
use Rattle.ut_case.specs.Built.{is_enabled}
use Rattle.ut_case.specs.Cases.{Case, IsCaseOf}
use Rattle.ut_case.specs.Items.{item_truth}
use Rattle.ut_case.specs.On.{is_on, parent_in}
use Rattle.ut_case.specs.Problem.{Problem}

-- ---- meeting wishes

-- a case meets a wish
abbrev pub is_met : Problem → Family → Case → Wish → Bool
is_met p f x (wish.Block b) = is_on p f x b
is_met p f x (wish.On name) = is_enabled p.basis x.configuration name
is_met p f x (wish.Off name) = not (is_enabled p.basis x.configuration name)
is_met p f x (wish.Holds formula nodes) = truth (item_truth p f x) formula

-- a family, and what is wished of its cases
pub record Question : Type 0 where
  pub family : Family
  pub wishes : List Wish

-- a case meets each wish
abbrev pub meets : Problem → Question → Case → Bool
meets p q x = list_all (is_met p q.family x) q.wishes

-- some case of the family makes this true
pub record SomeCase (p : Problem) (f : Family) (holds : Case → Bool) : Type 0 where
  pub witness : Case
  pub belongs : IsCaseOf p f witness
  pub held : holds witness ≡ true

-- no case of the family makes it true
abbrev pub NoCase : Problem → Family → (Case → Bool) → Type 0
NoCase p f holds = (x : Case) → IsCaseOf p f x → holds x ≡ false

-- some case of the family meets the question
abbrev pub CanBe : Problem → Question → Type 0
CanBe p q = SomeCase p q.family (meets p q)

-- no case of the family meets it
abbrev pub CanNotBe : Problem → Question → Type 0
CanNotBe p q = NoCase p q.family (meets p q)

-- ---- the questions on a block

-- that a block is off
abbrev pub off : BlockId → Wish
off b = wish.Holds (Neg (Is (item.Block b.file b.block))) (node.Block b.file b.block ∷ [])

-- Selected: the block. Dropped: its parent, and not the block.
abbrev pub wishes_on : Problem → BlockId → Ask → List Wish
wishes_on p b Selected = wish.Block b ∷ []
wishes_on p b Dropped = wish.Block (parent_in p b) ∷ off b ∷ []

-- the question on a block over a family
abbrev pub question_on : Problem → BlockId → Family → Ask → Question
question_on p b f ask = record { family = f; wishes = wishes_on p b ask }

-- what the struct of the same name asks
abbrev pub asked : Problem → block.Question → Question
asked p q = question_on p q.block q.family q.ask
