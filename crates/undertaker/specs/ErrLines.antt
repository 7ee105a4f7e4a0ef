-- The forms of the one line on `err`. This project's rule.
use Rattle.std.specs.Prelude.{ℕ, ◌++◌, codes, decimal}
use Rattle.ut_text.specs.Bytes.{Bytes}
use Rattle.ut_base.specs.Limits.{limit_word}
use Rattle.ut_base.specs.declared.limits.Limit.{Limit}

-- `FILE: WHAT`
abbrev pub named_line : Bytes → Bytes → Bytes
named_line file what = file ++ codes ": " ++ what

-- `FILE:LINE: WHAT`
abbrev pub placed_line : Bytes → ℕ → Bytes → Bytes
placed_line file line what = file ++ codes ":" ++ decimal line ++ codes ": " ++ what

-- `limit: WHAT COUNT`
abbrev pub limit_line : Limit → ℕ → Bytes
limit_line what count = codes "limit: " ++ limit_word what ++ codes " " ++ decimal count
