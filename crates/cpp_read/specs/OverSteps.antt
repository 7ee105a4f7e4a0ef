-- What the readers of signs promise each other.
-- This project's own; no contract of a public call rests on it.
use Rattle.std.specs.Prelude.{◌≡◌, Bool, true, nat_le}
use Rattle.cpp_directives.specs.Limits.{most_signs}
use Rattle.cpp_read.specs.declared.token.Token.{Token}
use Rattle.cpp_read.specs.SignsOver.{Over, over_after, signs_over}

-- whether a token has few enough signs over it, and the place after it then
pub record Steps (old : Over) (t : Token) (new : Over) (fits : Bool) : Type 0 where
  pub says : fits ≡ nat_le (signs_over old t) most_signs
  pub goes : fits ≡ true → new ≡ over_after old t
