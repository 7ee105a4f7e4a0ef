-- What is known, as a part of a tree, and configurations that have all else without a user's setting.
-- This project's rule.
use Rattle.std.specs.Prelude.{◌≡◌, ℕ, ◌<◌, false, length, slice_index_or}
use Rattle.kconf_tree.specs.Shape.{Shape}
use Rattle.kconf_tree.specs.Value.{Configuration}
pub use Rattle.kconf_tree.specs.Parts.{Part, Holds, IsClosedPart, IsRightPart, AgreeOn}
use Rattle.complete_conf.specs.declared.config.Known.{Known}
use Rattle.complete_conf.specs.Free.{free_value, free_mode}

-- what is known
abbrev pub part_of : Known → Part
part_of known = record { symbol = λ k. slice_index_or known.syms k false; choice = λ i. slice_index_or known.choices i false }

-- each symbol and choice outside has what it has without a user's setting under this very configuration
pub record IsRest (t : Shape) (p : Part) (c : Configuration) : Type 0 where
  pub values : (k : ℕ) → k < length t.symbols → p.symbol k ≡ false → c.value k ≡ free_value t c k
  pub modes : (i : ℕ) → i < length t.choices → p.choice i ≡ false → c.mode i ≡ free_mode t c i
