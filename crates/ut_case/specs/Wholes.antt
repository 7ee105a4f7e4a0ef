-- What a whole stands for in a problem, and which wholes fit it. This project's rule.
use Rattle.std.specs.Prelude.{◌≡◌, ℕ, Bool, true, false, not, ◌&&◌, nat_lt, if◌then◌else◌, List, length, slice_index_or}
use Rattle.ut_text.specs.Bytes.{Bytes}
use Rattle.ut_logic.specs.Assign.{is_in}
use Rattle.ut_logic.specs.declared.item.Item.{Item}
use Rattle.ut_logic.specs.declared.item.Item.TheVariants as item
use Rattle.clausify.specs.Order.{is_outer}
use Rattle.complete_conf.specs.Config.{configuration_of, all_n}
use Rattle.complete_conf.specs.declared.config.Config.{Config}
use Rattle.kconf_tree.specs.Shape.{Shape}
use Rattle.kconf_tree.specs.Value.{Configuration}
use Rattle.ut_case.specs.declared.whole.Values.{Values}
use Rattle.ut_case.specs.declared.whole.Values.TheVariants.{Tree, Names}
use Rattle.ut_case.specs.declared.whole.Whole.{Whole}
use Rattle.ut_case.specs.Cases.{Case}
use Rattle.ut_case.specs.Environments.{has_macro, has_piece, has_free_line}
use Rattle.ut_case.specs.Numbering.{outers_of}
use Rattle.ut_case.specs.Problem.{Basis, OfTree, OfRules, Problem}

-- ---- the case of a whole

-- the names with these truths, and the outer conditions that are true
abbrev pub named_configuration : List Bool → List Item → Configuration
named_configuration names env = record {
  value = λ k. if slice_index_or names k false then 2 else 0;
  mode = λ i. 0;
  outer = λ k. is_in env (item.Outer k);
  undeclared = λ name. false;
}

-- the configuration; values of the other kind stand for none
abbrev pub configuration_in : Basis → Values → List Item → Configuration
configuration_in (OfTree t) (Tree config) env = configuration_of t config
configuration_in (OfTree t) (Names names) env = all_n
configuration_in (OfRules r) (Tree config) env = all_n
configuration_in (OfRules r) (Names names) env = named_configuration names env

-- the true items but outer conditions, which over a model text belong to the configuration
abbrev pub environment_in : Values → List Item → Item → Bool
environment_in (Tree config) env i = is_in env i
environment_in (Names names) env i = not (is_outer i) && is_in env i

-- the case that a whole stands for
abbrev pub case_of : Problem → Whole → Case
case_of p w = record { configuration = configuration_in p.basis w.values w.env; environment = environment_in w.values w.env }

-- ---- wholes that fit

-- lists of the tree's counts, and one entry for each outer condition of the problem
pub record FitsCounts (t : Shape) (outers : List Bytes) (c : Config) : Type 0 where
  pub values : length c.values ≡ length t.symbols
  pub modes : length c.modes ≡ length t.choices
  pub conditions : length c.outers ≡ length outers

-- over a tree its values, over a model text one truth for each name
abbrev pub FitsValues : Problem → Basis → Values → Type 0
FitsValues p (OfTree t) (Tree config) = FitsCounts t (outers_of p) config
FitsValues p (OfTree t) (Names names) = ⊥
FitsValues p (OfRules r) (Tree config) = ⊥
FitsValues p (OfRules r) (Names names) = length names ≡ length r.names

-- over a model text, a number of an outer condition
abbrev pub has_outer : Problem → Basis → ℕ → Bool
has_outer p (OfTree t) k = false
has_outer p (OfRules r) k = nat_lt k (length (outers_of p))

-- a true item of a whole names what the problem has
abbrev pub is_named : Problem → Item → Bool
is_named p (item.Outer k) = has_outer p p.basis k
is_named p (item.StartD file n) = has_macro p file n
is_named p (item.StartT file n) = has_macro p file n
is_named p (item.Truth file n) = has_macro p file n
is_named p (item.Piece file k) = has_piece p file k
is_named p (item.Line file line) = has_free_line p file line
is_named p (item.SymY k) = false
is_named p (item.SymM k) = false
is_named p (item.Undeclared k) = false
is_named p (item.ModeY i) = false
is_named p (item.ModeM i) = false
is_named p (item.Same sym k) = false
is_named p (item.Below sym k) = false
is_named p (item.Block file block) = false
is_named p (item.StateD file n turn) = false
is_named p (item.StateT file n turn) = false

-- a whole that the calls over a problem take
pub record Fits (p : Problem) (w : Whole) : Type 0 where
  pub counted : FitsValues p p.basis w.values
  pub named : (i : Item) → is_in w.env i ≡ true → is_named p i ≡ true
  pub defined : (file n : ℕ) → is_in w.env (item.StartT file n) ≡ true → is_in w.env (item.StartD file n) ≡ true
