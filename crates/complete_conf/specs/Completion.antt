-- A configuration completed: along an order, all that doesn't belong to a part gets the value that it has
-- without a user's setting under the configuration so far. A choice and its members are set together. Public contracts
-- speak of what is kept and of the rest; this is how they come about. This project's rule.
use Rattle.std.specs.Prelude.{ℕ, ◌==◌, Bool, not, ◌&&◌, List, [], ◌∷◌, None, if◌then◌else◌}
use Rattle.ut_logic.specs.declared.node.Node.{Node}
use Rattle.ut_logic.specs.declared.node.Node.TheVariants.{Sym, Choice}
use Rattle.kconf_tree.specs.Shape.{Shape, choice_at, is_member}
use Rattle.kconf_tree.specs.Value.{Configuration}
use Rattle.kconf_tree.specs.Valid.{calculated_of}
use Rattle.complete_conf.specs.Free.{free_mode, picked_of, picked_value}
use Rattle.kconf_tree.specs.WellMade.{is_among}
use Rattle.complete_conf.specs.Parts.{Part}

-- another value for one symbol
abbrev pub with_value : Configuration → ℕ → ℕ → Configuration
with_value c k x = record c { value = λ j. if k == j then x else c.value j }

-- another mode for one choice
abbrev pub with_mode : Configuration → ℕ → ℕ → Configuration
with_mode c i x = record c { mode = λ h. if i == h then x else c.mode h }

-- another truth for one outer condition
abbrev pub with_outer : Configuration → ℕ → Bool → Configuration
with_outer c k b = record c { outer = λ h. if k == h then b else c.outer h }

-- a symbol that is no member, with its calculated value
abbrev pub with_symbol : Shape → Part → Configuration → ℕ → Configuration
with_symbol t p c k = if is_member t k then c else (if p.symbol k then c else with_value c k (calculated_of t c None k))

-- a choice with its free mode, and its members with the values that its rule gives
abbrev pub with_choice : Shape → Part → Configuration → ℕ → Configuration
with_choice t p c i = record c {
  mode = λ h. if (i == h) && not (p.choice h) then free_mode t c i else c.mode h;
  value = λ j. if is_among (choice_at t i).members j && not (p.symbol j) then picked_value (picked_of t c i) j else c.value j;
}

-- one node of the order
abbrev pub with_node : Shape → Part → Configuration → Node → Configuration
with_node t p c (Sym k) = with_symbol t p c k
with_node t p c (Choice i) = with_choice t p c i
with_node t p c n = c

-- all of the order, one after another
abbrev pub completed : Shape → Part → Configuration → List Node → Configuration
completed t p c [] = c
completed t p c (n ∷ ns) = completed t p (with_node t p c n) ns
