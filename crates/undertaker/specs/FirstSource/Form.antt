-- The first form of C sources that is read, and the line that is named where a source is not of this form.
-- This project's rule; what is read means what ISO C, "Conditional inclusion", says.
use Rattle.std.specs.Prelude.{ℕ, ◌+◌, Bool, false, ◌==◌, ◌||◌, ◌&&◌, nat_le, nat_eq, bytes_eq, codes, length, drop, ◌++◌, Result, Ok, Err, List, [], ◌∷◌, if◌then◌else◌}
use Rattle.std.specs.List.{list_any, list_all, starts_with}
use Rattle.ut_text.specs.Bytes.{Bytes}
use Rattle.ut_text.specs.ByteClasses.{begins_names, is_name_byte}
use Rattle.ut_text.specs.Lines.{lines_of}
use Rattle.ut_text.specs.Results.{◌>>=◌}
use Rattle.cpp_directives.specs.declared.condition.Cond.{Cond}
use Rattle.cpp_directives.specs.declared.condition.Cond.TheVariants.{Defined, Neg}
use Rattle.cpp_directives.specs.declared.directive.What.TheVariants.{If, Endif}
use Rattle.cpp_directives.specs.declared.directive.Directive.{Directive}
use Rattle.undertaker.specs.declared.first_source.lines.FirstLine.{FirstLine}
use Rattle.undertaker.specs.declared.first_source.lines.FirstLine.TheVariants.{Opens, Closes, Plain, Other}

-- a C name: a letter or `_`, followed by letters, digits and `_`
abbrev pub is_name : Bytes → Bool
is_name [] = false
is_name (b ∷ s) = begins_names b && list_all is_name_byte s

-- the bytes that may begin a directive, a comment, a splice or quoted text: `#`, `\`, `"`, `'`, `/`
abbrev pub is_special : ℕ → Bool
is_special b = b == 35 || b == 92 || b == 34 || b == 39 || b == 47

-- the word, followed by a C name
abbrev pub asks : Bytes → Bytes → Bool
asks word line = starts_with nat_eq line word && is_name (drop (length word) line)

-- a line that opens no chain is `#endif`, or holds no special byte
abbrev pub other_line : Bytes → FirstLine
other_line line = if bytes_eq line (codes "#endif") then Closes else if list_any is_special line then Other else Plain

-- `#ifdef X` and `#ifndef X` open a chain
abbrev pub first_line : Bytes → FirstLine
first_line line =
    if asks (codes "#ifdef ") line then Opens (Defined (drop 7 line))
    else if asks (codes "#ifndef ") line then Opens (Neg (Defined (drop 8 line)))
    else other_line line

-- the lines of the openers of the open chains, innermost first, and how many blocks there are so far
pub record Chains : Type 0 where
  pub openers : List ℕ
  pub blocks : ℕ

-- one more chain or block is too many
abbrev pub is_full : Chains → Bool
is_full c = nat_le 250 (length c.openers) || nat_le 65535 c.blocks

-- an opener, inside fewer than 250 open chains and after fewer than 65,535 blocks
abbrev pub opened : ℕ → Cond → Chains → Result (Chains × List Directive) ℕ
opened n cond c = if is_full c then Err n else Ok (record { openers = n ∷ c.openers; blocks = c.blocks + 1 }, record { line = n; what = If cond } ∷ [])

-- an `#endif` closes the innermost open chain
abbrev pub closed : ℕ → ℕ → List ℕ → Result (Chains × List Directive) ℕ
closed n blocks [] = Err n
closed n blocks (o ∷ os) = Ok (record { openers = os; blocks = blocks }, record { line = n; what = Endif } ∷ [])

-- what the line with number n does to the chains, and its directive
abbrev pub step : ℕ → FirstLine → Chains → Result (Chains × List Directive) ℕ
step n (Opens cond) c = opened n cond c
step n Closes c = closed n c.blocks c.openers
step n Plain c = Ok (c, [])
step n Other c = Err n

-- at the end no chain is open, or the innermost one's opener is named
abbrev pub at_end : List ℕ → Result (List Directive) ℕ
at_end [] = Ok []
at_end (o ∷ os) = Err o

-- the directives of the lines from number n on
abbrev pub read_lines : ℕ → Chains → List Bytes → Result (List Directive) ℕ
read_lines n c [] = at_end c.openers
read_lines n c (l ∷ ls) = step n (first_line l) c >>= λ x. read_lines (n + 1) x.0 ls >>= λ ds. Ok (x.1 ++ ds)

-- no chain is open and no block was met
abbrev pub no_chains : Chains
no_chains = record { openers = []; blocks = 0 }

-- the directives of a text of the form, or the number of the line that is named
abbrev pub first_directives_of : Bytes → Result (List Directive) ℕ
first_directives_of bytes = read_lines 1 no_chains (lines_of bytes)
