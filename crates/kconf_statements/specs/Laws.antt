-- What follows from the definition of what lines say, in words of its own: which lines enclose a line, and that each
-- choice that a config names exists. This project's words.
use Rattle.std.specs.Prelude.{◌≡◌, ◌<◌, ℕ, zero, suc, length, drop, ◌++◌, IfSome, All, Option, None, Some, List, [], ◌∷◌}
use Rattle.kconf_statements.specs.EntryLines.{Entry, At, Before}
use Rattle.kconf_statements.specs.Enclosing.{enclosing}
use Rattle.kconf_statements.specs.Entries.{configs_of, choices_of, types_of}

-- one open entry less; none where one closes what was open before them
abbrev pub one_closed : Option ℕ → Option ℕ
one_closed None = None
one_closed (Some zero) = None
one_closed (Some (suc n)) = Some n

-- one entry more is open
abbrev pub one_opened : Option ℕ → Option ℕ
one_opened None = None
one_opened (Some n) = Some (suc n)

-- how many are open after an entry, of those before it
abbrev pub left_open : Entry → Option ℕ → Option ℕ
left_open Entry.MainMenu n = n
left_open Entry.Comment n = n
left_open (Entry.Menu m) n = one_opened n
left_open (Entry.Config c) n = n
left_open (Entry.Choice c) n = one_opened n
left_open (Entry.If e) n = one_opened n
left_open (Entry.End what) n = one_closed n
left_open (Entry.Source file) n = one_opened n
left_open Entry.Sourced n = one_closed n

-- how many of these entries are still open; none where some of them close what was open before them
abbrev pub still_open : Before → Option ℕ
still_open [] = Some 0
still_open (At line e ∷ before) = left_open e (still_open before)

-- what encloses a place encloses what follows, inside of what was opened since, as long as no end word ends it
abbrev pub StaysEnclosed : Before → Before → Type 0
StaysEnclosed later before = IfSome (still_open later) (λ n. drop n (enclosing (later ++ before)) ≡ enclosing before)

-- each choice that a config names exists; this holds whatever the lines say
abbrev pub HaveChoices : Before → Type 0
HaveChoices before = All (λ c. IfSome c.choice (λ n. n < length (choices_of (types_of before) before))) (configs_of before)
