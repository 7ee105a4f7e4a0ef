-- What sources share, with its count of outer conditions kept beside it. No public contract cites this module.
use Rattle.std.specs.Prelude.{◌≡◌, ◌<◌, ◌+◌, ◌^◌, ℕ, List, length}
use Rattle.ut_text.specs.Bytes.{Bytes}
use Rattle.kconf_constr.specs.Scope.{IsRising}

-- undeclared names rise by their bytes, and the count is that of both lists of outer conditions
pub record IsCounted (first more : List Bytes) (count : ℕ) (undeclared : List Bytes) : Type 0 where
  pub rising : IsRising undeclared
  pub same : count ≡ length first + length more
  pub few : length first + length more < 2 ^ 64
