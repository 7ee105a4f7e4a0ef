-- The signs over a token: the parentheses that are open at it, the `!` in a row directly before it, and those
-- directly before each of these parentheses. This project's rule: at most 200.
use Rattle.std.specs.Prelude.{ℕ, ◌+◌, Bool, true, ◌&&◌, nat_le, List, [], ◌∷◌, if◌then◌else◌}
use Rattle.ut_text.specs.Bytes.{Bytes}
use Rattle.cpp_directives.specs.Limits.{most_signs}
use Rattle.cpp_read.specs.declared.token.Token.{Token}
use Rattle.cpp_read.specs.Signs.{is_open, is_close, is_not}

-- the place before a token: the signs of open parentheses, those of each outer place, and the `!` in a row before
pub record Over : Type 0 where
  pub signs : ℕ
  pub outer : Bytes
  pub row : ℕ

-- no parenthesis is open, no `!` stands before
abbrev pub outermost : Over
outermost = record { signs = 0; outer = []; row = 0 }

-- after a closing parenthesis the outer place goes on
abbrev pub outside : Bytes → Over
outside [] = outermost
outside (n ∷ ns) = record { signs = n; outer = ns; row = 0 }

-- the place after a token that closes nothing
abbrev pub inner_after : Over → Token → Over
inner_after o t =
    if is_not t then record { signs = o.signs; outer = o.outer; row = o.row + 1 }
    else if is_open t then record { signs = o.signs + o.row + 1; outer = o.signs ∷ o.outer; row = 0 }
    else record { signs = o.signs; outer = o.outer; row = 0 }

-- the place after a token
abbrev pub over_after : Over → Token → Over
over_after o t = if is_close t then outside o.outer else inner_after o t

-- the signs over a token: a closing parenthesis is outside its own
abbrev pub signs_over : Over → Token → ℕ
signs_over o t = if is_close t then (outside o.outer).signs + o.row else o.signs + o.row

-- no token has more than 200 signs over it
abbrev pub signs_fit : Over → List Token → Bool
signs_fit o [] = true
signs_fit o (t ∷ ts) = nat_le (signs_over o t) most_signs && signs_fit (over_after o t) ts
