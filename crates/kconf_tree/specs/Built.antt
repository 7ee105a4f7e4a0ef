-- What a tree is made of, and why entries are refused.
-- Rule: this project's own.
use Rattle.std.specs.Prelude.{◌≡◌, ◌^◌, ◌<◌, length, All, None, Some}
use Rattle.std.specs.Option.{IfSome}
use Rattle.kconf_entries.specs.declared.entries.ConfigEntry.{ConfigEntry}
use Rattle.kconf_entries.specs.declared.entries.Entries.{Entries}
use Rattle.kconf_tree.specs.declared.bad.TreeBad.{TreeBad}
use Rattle.kconf_tree.specs.declared.bad.TreeBad.TheVariants.{TooMany, Recursive, Oom}
use Rattle.kconf_tree.specs.Gathered.{gathered}
use Rattle.kconf_tree.specs.Limits.{first_passed}
use Rattle.kconf_tree.specs.Orders.{IsOrder, IsAccepted, IsFirstCycle}
use Rattle.kconf_tree.specs.OrderedTree.{OrderedTree}

-- each choice that a config names exists, and the numbers of choices fit a u32
pub record HaveChoices (e : Entries) : Type 0 where
  pub named : All (λ (c : ConfigEntry). IfSome c.choice (λ i. i < length e.choices)) e.configs
  pub numbered : length e.choices < 2 ^ 32

-- the tree of the entries, within the limits, with an order
pub record IsTreeOf (e : Entries) (t : OrderedTree) : Type 0 where
  pub gathered_whole : t.shape ≡ gathered e
  pub within : first_passed (gathered e) ≡ None
  pub ordered : IsOrder (gathered e) t.order

-- a limit that is passed, or within the limits a cycle
abbrev pub IsRefused : Entries → TreeBad → Type 0
IsRefused e (TooMany what count) = first_passed (gathered e) ≡ Some (record { what = what; count = count })
IsRefused e (Recursive cycle) = (first_passed (gathered e) ≡ None) × ((¬ IsAccepted (gathered e)) × IsFirstCycle (gathered e) cycle)
IsRefused e Oom = Unit {0}
