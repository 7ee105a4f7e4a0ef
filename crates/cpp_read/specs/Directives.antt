-- What the logical lines of a text say, or its first bad line: each line whose first token is a number sign is read by its
-- word. The directives of a text, and the places of their lines, are taken from that, so that both are refused alike.
-- Rule: ISO C, "Preprocessing directives".
use Rattle.std.specs.Prelude.{ℕ, ◌+◌, ◌-◌, ◌++◌, Bool, true, false, ◌==◌, get_or, length, map, Result, Ok, Err, List, [], ◌∷◌, if◌then◌else◌}
use Rattle.std.specs.List.{flat_map, prefix_len}
use Rattle.ut_text.specs.Bytes.{Bytes}
use Rattle.cpp_read.specs.Characters.{open_parenthesis}
use Rattle.cpp_read.specs.declared.spans.LineOf.{LineOf}
use Rattle.cpp_read.specs.declared.words.Word.{Word}
use Rattle.cpp_read.specs.declared.words.Word.TheVariants as word
use Rattle.cpp_read.specs.declared.number.Whole.{Whole}
use Rattle.cpp_read.specs.declared.number.Whole.TheVariants as number
use Rattle.cpp_directives.specs.declared.condition.Cond.{Cond}
use Rattle.cpp_directives.specs.declared.condition.Cond.TheVariants.{Defined, Neg}
use Rattle.cpp_directives.specs.declared.directive.Gives.{Gives}
use Rattle.cpp_directives.specs.declared.directive.Gives.TheVariants.{Zero, Nonzero, Free}
use Rattle.cpp_directives.specs.declared.directive.What.{What}
use Rattle.cpp_directives.specs.declared.directive.What.TheVariants.{If, Elif, Else, Endif, Define, Undef}
use Rattle.cpp_directives.specs.declared.directive.Directive.{Directive}
use Rattle.cpp_directives.specs.declared.bad.CppBad.{CppBad}
use Rattle.cpp_directives.specs.declared.bad.CppBad.TheVariants.{NoName}
use Rattle.cpp_read.specs.LogicalLines.{Marked, is_white, logical_lines, marked_lines}
use Rattle.cpp_read.specs.Words.{after_white, name_at, after_name, begins_name, word_of, part_of}
use Rattle.cpp_read.specs.Tokens.{spellings_of, tokens_of}
use Rattle.cpp_read.specs.Numbers.{whole}
use Rattle.cpp_read.specs.Condition.{condition}
use Rattle.cpp_directives.specs.Chains.{Earlier, passing, at_end}
use Rattle.ut_text.specs.Results.{◌>>=◌}

-- the name that a text begins with
abbrev pub named : Bytes → ℕ → Result (Bytes) CppBad
named text n = if begins_name text then Ok (name_at text) else Err (NoName n)

-- whether a text begins with `(`
abbrev pub begins_open : Bytes → Bool
begins_open [] = false
begins_open (b ∷ s) = b == open_parenthesis

-- the truth of a whole number as a body
abbrev pub whole_gives : Whole → Gives
whole_gives number.NotWhole = Free
whole_gives number.Zero = Zero
whole_gives number.Nonzero = Nonzero
whole_gives number.Wide = Nonzero

-- a body of one whole number gives its truth
abbrev pub body_gives : List Bytes → Gives
body_gives [] = Free
body_gives (t ∷ []) = whole_gives (whole t)
body_gives (t ∷ u ∷ ts) = Free

-- what stands after a macro's name gives: a parenthesis directly there is that of parameters
abbrev pub gives_of : Bytes → Gives
gives_of text = if begins_open text then Free else body_gives (spellings_of text)

-- a name is not defined
abbrev pub undefined : Bytes → ℕ → Result Cond CppBad
undefined text n = named text n >>= λ x. Ok (Neg (Defined x))

-- `#define` of a name
abbrev pub definition : Bytes → ℕ → Result What CppBad
definition text n = named text n >>= λ x. Ok (Define x (gives_of (after_name text)))

-- what a directive's word and the text after it say on line n
abbrev pub what_of : Word → Bytes → ℕ → Result (List What) CppBad
what_of word.If text n = condition n (tokens_of text) >>= λ c. Ok (If c ∷ [])
what_of word.Elif text n = condition n (tokens_of text) >>= λ c. Ok (Elif c ∷ [])
what_of word.Ifdef text n = named (after_white text) n >>= λ x. Ok (If (Defined x) ∷ [])
what_of word.Ifndef text n = undefined (after_white text) n >>= λ c. Ok (If c ∷ [])
what_of word.Elifdef text n = named (after_white text) n >>= λ x. Ok (Elif (Defined x) ∷ [])
what_of word.Elifndef text n = undefined (after_white text) n >>= λ c. Ok (Elif c ∷ [])
what_of word.Else text n = Ok (Else ∷ [])
what_of word.Endif text n = Ok (Endif ∷ [])
what_of word.Define text n = definition (after_white text) n >>= λ w. Ok (w ∷ [])
what_of word.Undef text n = named (after_white text) n >>= λ x. Ok (Undef x ∷ [])
what_of word.Other text n = Ok []

-- the word of a directive's line, and the text after it
abbrev pub word_at : Bytes → Word
word_at text = word_of (name_at (after_white text))

-- what stands before the next line, and what a line says: first the chains may refuse it, then the line itself
abbrev pub read_line : List Earlier → ℕ → Bytes → Result (List Earlier × List What) CppBad
read_line before n text = passing (part_of (word_at text)) n before >>= λ more. what_of (word_at text) (after_name (after_white text)) n >>= λ ws. Ok (more, ws)

-- how many bytes stand before the word of a directive's line
abbrev pub word_start : Bytes → ℕ
word_start text = prefix_len is_white text

-- how many bytes stand up to its end
abbrev pub word_stop : Bytes → ℕ
word_stop text = word_start text + length (name_at (after_white text))

-- the places of a directive's line and of its word
abbrev pub span_of : Marked → LineOf
span_of m = record {
  line = m.number;
  start = m.start;
  end = m.end;
  word = get_or m.ends (word_start m.text) 0 - 1;
  word_end = get_or m.ends (word_stop m.text - 1) 0;
}

-- a directive, and the places of its line
pub record Read : Type 0 where
  pub directive : Directive
  pub span : LineOf

-- what a line with these places says
abbrev pub said : LineOf → List What → List Read
said span [] = []
said span (w ∷ ws) = record { directive = record { line = span.line; what = w }; span = span } ∷ said span ws

-- the lines, read in order after these earlier directives
abbrev pub read_lines : List Earlier → List Marked → Result (List Read) CppBad
read_lines before [] = at_end before >>= λ b. Ok []
read_lines before (m ∷ ms) = read_line before m.number m.text >>= λ x. read_lines x.0 ms >>= λ rs. Ok (said (span_of m) x.1 ++ rs)

-- what the logical lines of a text say
abbrev pub read_of : Bytes → Result (List Read) CppBad
read_of bytes = read_lines [] (marked_lines (logical_lines bytes))

-- the directives among what was read
abbrev pub directives_in : List Read → List Directive
directives_in rs = map (λ r. r.directive) rs

-- the directives of a text
abbrev pub directives_of : Bytes → Result (List Directive) CppBad
directives_of bytes = read_of bytes >>= λ rs. Ok (directives_in rs)

-- whether a directive is conditional
abbrev pub is_conditional : What → Bool
is_conditional (If cond) = true
is_conditional (Elif cond) = true
is_conditional Else = true
is_conditional Endif = true
is_conditional (Define name gives) = false
is_conditional (Undef name) = false

-- the line of a conditional directive
abbrev pub own_span : What → LineOf → List LineOf
own_span w span = if is_conditional w then span ∷ [] else []

-- the lines of conditional directives among what was read
abbrev pub spans_in : List Read → List LineOf
spans_in rs = flat_map (λ r. own_span r.directive.what r.span) rs

-- the lines of the conditional directives of a text
abbrev pub spans_of : Bytes → Result (List LineOf) CppBad
spans_of bytes = read_of bytes >>= λ rs. Ok (spans_in rs)
