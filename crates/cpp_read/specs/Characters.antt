-- The characters that C gives a meaning of its own, by their names. Rule: ISO C, "Character sets".
use Rattle.std.specs.Prelude.{ℕ, Bool, ◌==◌}
use Rattle.std.specs.List.{list_any}
use Rattle.ut_text.specs.Bytes.{Bytes}

abbrev pub vertical_tab : ℕ
vertical_tab = 11

abbrev pub form_feed : ℕ
form_feed = 12

-- `"`
abbrev pub quote : ℕ
quote = 34

-- `#`
abbrev pub number_sign : ℕ
number_sign = 35

-- `'`
abbrev pub apostrophe : ℕ
apostrophe = 39

-- `(`
abbrev pub open_parenthesis : ℕ
open_parenthesis = 40

-- `*`
abbrev pub star : ℕ
star = 42

-- `.`
abbrev pub dot : ℕ
dot = 46

-- `/`
abbrev pub slash : ℕ
slash = 47

-- `0`
abbrev pub digit_zero : ℕ
digit_zero = 48

-- `=`
abbrev pub equals : ℕ
equals = 61

-- `\`
abbrev pub backslash : ℕ
backslash = 92

-- whether a byte is one of these characters
abbrev pub is_any_of : Bytes → ℕ → Bool
is_any_of characters b = list_any (λ c. b == c) characters
