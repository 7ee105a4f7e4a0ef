-- What the facts of a tree mean: truths of items meet them exactly where the configuration that is read off them keeps the
-- tree's rules. This project's rule.
use Rattle.std.specs.Prelude.{◌≡◌, ◌↔◌, ◌<◌, ℕ, ◌==◌, Bool, true, not, List, All, length, Option, None, Some}
use Rattle.ut_logic.specs.declared.item.Item.{Item}
use Rattle.ut_logic.specs.declared.node.Node.{Node}
use Rattle.ut_logic.specs.declared.node.Node.TheVariants.{Sym, Choice, Block, State}
use Rattle.ut_logic.specs.declared.facts.Fact.{Fact}
use Rattle.ut_logic.specs.declared.formula.Formula.{Formula}
use Rattle.ut_logic.specs.Facts.{Meets, MeetsAll}
use Rattle.ut_logic.specs.Truth.{truth}
use Rattle.kconf_entries.specs.declared.expr.Expr.{Expr}
use Rattle.kconf_tree.specs.Shape.{Shape, symbol_at, choice_at}
use Rattle.kconf_tree.specs.Value.{value_of, is_text_or_number}
use Rattle.kconf_tree.specs.Properties.{is_written}
use Rattle.kconf_tree.specs.Valid.{IsRightChoice, KeepsRules, IsValid}
use Rattle.kconf_tree.specs.Right.{IsRight}
use Rattle.kconf_constr.specs.Scope.{Scope, whole}
use Rattle.kconf_constr.specs.Stands.{read_off, has_one_value, has_one_mode}

-- ---- node by node

-- a symbol that is no member has one value, and it is right; a member is right by its choice
abbrev pub SymbolIsRight : Scope → (Item → Bool) → ℕ → Option ℕ → Type 0
SymbolIsRight s v k None = (has_one_value s.shape v k ≡ true) × IsRight s.shape (read_off s v) k
SymbolIsRight s v k (Some i) = Unit {0}

-- a choice has one mode and each of its members one value, and it keeps its rules
pub record ChoiceIsRight (s : Scope) (v : Item → Bool) (i : ℕ) : Type 0 where
  pub one_mode : has_one_mode s.shape v i ≡ true
  pub one_value : All (λ j. has_one_value s.shape v j ≡ true) (choice_at s.shape i).members
  pub right : IsRightChoice s.shape (read_off s v) i

-- the node is right under the configuration that is read off the truths
abbrev pub NodeIsRight : Scope → (Item → Bool) → Node → Type 0
NodeIsRight s v (Sym k) = SymbolIsRight s v k (symbol_at s.shape k).member_of
NodeIsRight s v (Choice i) = ChoiceIsRight s v i
NodeIsRight s v (Block file block) = ⊥
NodeIsRight s v (State file name turn) = ⊥

-- the truths that meet the fact are those under which its node is right
abbrev pub SaysRight : Scope → Fact → Type 0
SaysRight s fact = (v : Item → Bool) → Meets v fact ↔ NodeIsRight s v fact.node

-- ---- all together

-- each symbol has one value and each choice one mode
pub record HaveOneValue (t : Shape) (v : Item → Bool) : Type 0 where
  pub values : (k : ℕ) → k < length t.symbols → has_one_value t v k ≡ true
  pub modes : (i : ℕ) → i < length t.choices → has_one_mode t v i ≡ true

-- truths meet all facts exactly where the configuration that is read off them keeps the rules
abbrev pub SayRules : Scope → List Fact → Type 0
SayRules s facts = (v : Item → Bool) → MeetsAll v facts ↔ (HaveOneValue s.shape v × KeepsRules s.shape (read_off s v))

-- and, where every undeclared name is n, exactly where it is valid
abbrev pub SayValid : Shape → List Fact → Type 0
SayValid t facts = (v : Item → Bool) → MeetsAll v facts ↔ (HaveOneValue t v × IsValid t (read_off (whole t) v))

-- ---- conditions

-- the formula is true exactly where the condition isn't n
abbrev pub SaysNotN : Scope → Expr → Formula → Type 0
SaysNotN s e f = (v : Item → Bool) → truth v f ≡ not (value_of s.shape (read_off s v) e == 0)

-- or is y
abbrev pub SaysY : Scope → Expr → Formula → Type 0
SaysY s e f = (v : Item → Bool) → truth v f ≡ (value_of s.shape (read_off s v) e == 2)

-- ---- symbols of texts and numbers

-- the formula is true exactly where such a symbol is written
abbrev pub SaysWritten : Scope → ℕ → Formula → Type 0
SaysWritten s k f = is_text_or_number (symbol_at s.shape k).kind ≡ true → (v : Item → Bool) → truth v f ≡ is_written s.shape (read_off s v) k
