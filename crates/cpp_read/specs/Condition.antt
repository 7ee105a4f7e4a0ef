-- The condition of a list of tokens: what every reader that reads by the rules of `Conditions` gives, where the
-- list is readable. This project's rule; `conditions_follow_rules` says that this reader is one of them.
use Rattle.std.specs.Prelude.{ℕ, suc, zero, length, Result, Err, List, if◌then◌else◌}
use Rattle.cpp_read.specs.declared.token.Token.{Token}
use Rattle.cpp_directives.specs.declared.condition.Cond.{Cond}
use Rattle.cpp_directives.specs.declared.bad.CppBad.{CppBad}
use Rattle.cpp_directives.specs.declared.bad.CppBad.TheVariants.{Condition}
use Rattle.cpp_read.specs.Conditions.{Reader, by_rules, is_readable}

-- n steps down are enough for lists of fewer than n tokens
unfoldable pub within : ℕ → ℕ → Reader
within line zero ts = Err (Condition line)
within line (suc n) ts = by_rules line (within line n) ts

-- the reader by the rules
unfoldable pub ruled_condition : ℕ → Reader
ruled_condition line ts = within line (suc (length ts)) ts

-- the condition of the tokens of a line, or its refusal
abbrev pub condition : ℕ → List Token → Result Cond CppBad
condition line ts = if is_readable ts then ruled_condition line ts else Err (Condition line)
