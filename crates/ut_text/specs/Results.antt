-- Steps one after another, of which the first that fails decides. The usual composition of results.
use Rattle.std.specs.Prelude.{Result, Ok, Err}

-- what the next step makes of a value; an error stays
infixl 10 ◌>>=◌
abbrev pub ◌>>=◌ : {A B E : Type 0} → Result A E → (A → Result B E) → Result B E
(Ok x) >>= f = f x
(Err e) >>= f = Err e
