-- What inner functions promise each other. No public contract cites this module.
use Rattle.std.specs.Prelude.{◌≡◌, ◌<◌, ℕ, ◌==◌, true, not, ◌&&◌, List, Option, None, Some, if◌then◌else◌, length}
use Rattle.kconf_tree.specs.Value.{Configuration}
use Rattle.complete_conf.specs.declared.config.Config.{Config}
use Rattle.kconf_tree.specs.WellMade.{is_among}
use Rattle.complete_conf.specs.Parts.{Part}
use Rattle.complete_conf.specs.Free.{picked_value}

-- y where the outer condition with this number is true, else n
abbrev pub truth_of : Configuration → Option ℕ → ℕ
truth_of c None = 0
truth_of c (Some k) = if c.outer k then 2 else 0

-- another mode for one choice where it doesn't belong to the part
abbrev pub with_free_mode : Part → Configuration → ℕ → ℕ → Configuration
with_free_mode p c i x = record c { mode = λ h. if (i == h) && not (p.choice h) then x else c.mode h }

-- y for the picked one of these symbols and n for the others, but for those of the part
abbrev pub with_picked : Part → Configuration → Option ℕ → List ℕ → Configuration
with_picked p c picked ms = record c { value = λ j. if is_among ms j && not (p.symbol j) then picked_value picked j else c.value j }

-- all numbers of the list have a value
abbrev pub HaveValues : Config → List ℕ → Type 0
HaveValues c ms = (j : ℕ) → is_among ms j ≡ true → j < length c.values
