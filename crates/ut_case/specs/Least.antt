-- The least case of a question: of all cases that meet it the first, by the truths of its items in order with false before
-- true; outside what the question needs, all has its value without a user's setting, or is false. This project's rule.
use Rattle.std.specs.Prelude.{◌≡◌, ◌⊎◌, ℕ, Bool, true, false, List, [], ◌∷◌, Option, None, Some}
use Rattle.ut_text.specs.Bytes.{Bytes}
use Rattle.ut_logic.specs.Assign.{is_in}
use Rattle.ut_logic.specs.declared.item.Item.{Item}
use Rattle.ut_logic.specs.declared.item.Item.TheVariants as item
use Rattle.ut_logic.specs.declared.node.Node.{Node}
use Rattle.ut_logic.specs.declared.node.Node.TheVariants as node
use Rattle.complete_conf.specs.Parts.{IsRest}
use Rattle.kconf_constr.specs.Scope.{number_among}
use Rattle.kconf_tree.specs.Parts.{part_of_nodes}
use Rattle.kconf_tree.specs.Value.{Configuration}
use Rattle.model_slice.specs.Found.{has}
use Rattle.ut_case.specs.Cases.{Case, IsCaseOf}
use Rattle.ut_case.specs.Environments.{IsEnvironment}
use Rattle.ut_case.specs.Items.{item_truth}
use Rattle.ut_case.specs.Needs.{AreNeeds, AreItems}
use Rattle.ut_case.specs.Problem.{Basis, OfTree, OfRules, Problem}
use Rattle.ut_case.specs.Questions.{Question, meets}

-- the truths agree on the items, or at the first item where they differ the first is false
abbrev pub IsAtMost : List Item → (Item → Bool) → (Item → Bool) → Type 0
IsAtMost [] v u = Unit {0}
IsAtMost (i ∷ is) v u = ((v i ≡ false) × (u i ≡ true)) ⊎ ((v i ≡ u i) × IsAtMost is v u)

-- outside these nodes each symbol and choice has what it has without a user's setting, and each name of a model text is false
abbrev pub IsFreeOutside : Basis → List Node → Configuration → Type 0
IsFreeOutside (OfTree t) nodes c = IsRest t (part_of_nodes nodes) c
IsFreeOutside (OfRules r) nodes c = (k : ℕ) → has nodes (node.Sym k) ≡ false → c.value k ≡ 0

-- whether an undeclared name with this number, if it has one, is among the items
abbrev pub has_undeclared : List Item → Option ℕ → Bool
has_undeclared items None = false
has_undeclared items (Some k) = is_in items (item.Undeclared k)

-- off the items all else is false
pub record IsFalseOff (p : Problem) (items : List Item) (x : Case) : Type 0 where
  pub environment : (i : Item) → is_in items i ≡ false → x.environment i ≡ false
  pub outers : (k : ℕ) → is_in items (item.Outer k) ≡ false → x.configuration.outer k ≡ false
  pub undeclared : (name : Bytes) → has_undeclared items (number_among p.undeclared name) ≡ false → x.configuration.undeclared name ≡ false

-- the least case of a question
pub record IsLeast (p : Problem) (q : Question) (x : Case) : Type 0 where
  pub belongs : IsCaseOf p q.family x
  pub environment : IsEnvironment p q.family x
  pub met : meets p q x ≡ true
  pub nodes : List Node
  pub needs : AreNeeds p q nodes
  pub items : List Item
  pub named : AreItems p q nodes items
  pub least : (y : Case) → IsCaseOf p q.family y → meets p q y ≡ true → IsAtMost items (item_truth p q.family x) (item_truth p q.family y)
  pub outside : IsFreeOutside p.basis nodes x.configuration
  pub off : IsFalseOff p items x
