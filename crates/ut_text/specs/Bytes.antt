-- Lists of bytes, and the bytes that have a name. This project's words.
use Rattle.std.specs.Prelude.{ℕ, List}

-- a list of bytes, each a number below 256
abbrev pub Bytes : Type 0
Bytes = List ℕ

-- bytes of ASCII by their names
abbrev pub tab : ℕ
tab = 9

abbrev pub newline : ℕ
newline = 10

abbrev pub carriage_return : ℕ
carriage_return = 13

abbrev pub space : ℕ
space = 32

abbrev pub double_quote : ℕ
double_quote = 34

abbrev pub number_sign : ℕ
number_sign = 35

abbrev pub single_quote : ℕ
single_quote = 39

abbrev pub backslash : ℕ
backslash = 92

abbrev pub underscore : ℕ
underscore = 95
