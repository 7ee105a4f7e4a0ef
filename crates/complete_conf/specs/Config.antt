-- The configuration that a `Config` stands for, and the trees that it fits.
-- This project's rule.
use Rattle.std.specs.Prelude.{◌≡◌, ◌≤◌, false, length, slice_index_or}
use Rattle.ut_logic.specs.Trit.{rank}
use Rattle.ut_logic.specs.declared.trit.Trit.TheVariants.{N}
use Rattle.kconf_tree.specs.Shape.{Shape}
use Rattle.kconf_tree.specs.Value.{Configuration}
use Rattle.complete_conf.specs.declared.config.Config.{Config}

-- the value, mode and truth that the lists have at each number; undeclared names are n
abbrev pub by_lists : Config → Configuration
by_lists c = record {
  value = λ k. rank (slice_index_or c.values k N);
  mode = λ i. rank (slice_index_or c.modes i N);
  outer = λ k. slice_index_or c.outers k false;
  undeclared = λ name. false;
}

-- what a `Config` stands for in a tree
abbrev pub configuration_of : Shape → Config → Configuration
configuration_of t c = by_lists c

-- all is n, and no outer condition holds
abbrev pub all_n : Configuration
all_n = record { value = λ k. 0; mode = λ i. 0; outer = λ k. false; undeclared = λ name. false }

-- the lists have the tree's counts, that of outer conditions at least
pub record FitsTree (t : Shape) (c : Config) : Type 0 where
  pub values : length c.values ≡ length t.symbols
  pub modes : length c.modes ≡ length t.choices
  pub outers : length t.outers ≤ length c.outers

-- the lists stay as long
pub record KeepsLengths (old new : Config) : Type 0 where
  pub values : length new.values ≡ length old.values
  pub modes : length new.modes ≡ length old.modes
  pub outers : length new.outers ≡ length old.outers
