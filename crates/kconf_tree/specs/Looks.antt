-- What a tree's rules look at in a configuration: the values, modes and truths at its own numbers, and how the undeclared
-- names of its expressions are read. This project's rule.
use Rattle.std.specs.Prelude.{◌≡◌, ℕ, ◌<◌, Contains, length}
use Rattle.ut_text.specs.Bytes.{Bytes}
use Rattle.kconf_tree.specs.Shape.{Shape}
use Rattle.kconf_tree.specs.Value.{Configuration}
use Rattle.kconf_tree.specs.Undeclared.{undeclared_of}

-- two configurations are the same in all of these
pub record AreSameIn (t : Shape) (c d : Configuration) : Type 0 where
  pub values : (k : ℕ) → k < length t.symbols → c.value k ≡ d.value k
  pub modes : (i : ℕ) → i < length t.choices → c.mode i ≡ d.mode i
  pub outers : (k : ℕ) → k < length t.outers → c.outer k ≡ d.outer k
  pub undeclared : (name : Bytes) → Contains (undeclared_of t) name → c.undeclared name ≡ d.undeclared name
