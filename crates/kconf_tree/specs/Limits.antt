-- The limits of a tree on symbols, members of one choice and defaults of one symbol, and the first that is
-- passed, in this order. This project's rule.
use Rattle.std.specs.Prelude.{ℕ, List, [], ◌∷◌, Option, None, Some, if◌then◌else◌, map, length, nat_lt}
use Rattle.std.specs.Option.{option_or}
use Rattle.ut_base.specs.declared.limits.Limit.{Limit}
use Rattle.ut_base.specs.declared.limits.Limit.TheVariants.{Symbols, Members, Defaults}
use Rattle.kconf_tree.specs.declared.shape.Symbol.{Symbol}
use Rattle.kconf_tree.specs.declared.shape.Choice.{Choice}
use Rattle.kconf_tree.specs.declared.limits.Passed.{Passed}
use Rattle.kconf_tree.specs.Shape.{Shape}

-- the most symbols of a tree
abbrev pub max_symbols : ℕ
max_symbols = 65536

-- the most members of one choice
abbrev pub max_members : ℕ
max_members = 1024

-- the most defaults of one symbol
abbrev pub max_defaults : ℕ
max_defaults = 1024

-- a count that passes the limit
abbrev pub past : Limit → ℕ → ℕ → Option Passed
past what limit n = if nat_lt limit n then Some (record { what = what; count = n }) else None

-- the first count that passes the limit
abbrev pub first_past : Limit → ℕ → List ℕ → Option Passed
first_past what limit [] = None
first_past what limit (n ∷ ns) = option_or (past what limit n) (first_past what limit ns)

-- the members of each choice first, then the defaults of each symbol
abbrev pub each_past : List Choice → List Symbol → Option Passed
each_past cs ss = option_or (first_past Members max_members (map (λ (c : Choice). length c.members) cs))
    (first_past Defaults max_defaults (map (λ (s : Symbol). length s.defaults) ss))

-- symbols first, then the others
abbrev pub first_passed : Shape → Option Passed
first_passed t = option_or (past Symbols max_symbols (length t.symbols)) (each_past t.choices t.symbols)
