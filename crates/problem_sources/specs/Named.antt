-- The rules of a model text with their names kept as a set too. No public contract cites this module.
use Rattle.std.specs.Prelude.{◌≡◌, ◌<◌, ◌^◌, List, length}
use Rattle.ut_text.specs.Bytes.{Bytes}
use Rattle.ut_logic.specs.declared.facts.Rules.{Rules}
use Rattle.ut_case.specs.Posed.{AreRules}

-- the set has their names in order, of which there are few
pub record AreNamed (r : Rules) (names : List Bytes) : Type 0 where
  pub rules : AreRules r
  pub same : names ≡ r.names
  pub few : length r.names < 2 ^ 32
