-- What may stand after the first words of a statement. A fault names the first place from the left at which the line
-- cannot go on; the limit on signs comes after all others. Rule: Linux kconfig-language, "Menu entries" and "Menu
-- attributes"; the kinds of faults and their order are this project's.
use Rattle.std.specs.Prelude.{ℕ, Bool, true, false, not, ◌==◌, ◌&&◌, ◌||◌, nat_le, max, codes, length, Option, None, Some, option_and_then, Result, Ok, Err, List, [], ◌∷◌, if◌then◌else◌}
use Rattle.std.specs.Str.{is_utf8}
use Rattle.ut_text.specs.Bytes.{Bytes}
use Rattle.ut_text.specs.Results.{◌>>=◌}
use Rattle.ut_base.specs.Names.{beside}
use Rattle.ut_base.specs.declared.limits.Limit.TheVariants as limit
use Rattle.ut_logic.specs.declared.trit.Trit.TheVariants.{Y}
use Rattle.kconf_entries.specs.declared.entries.DefaultOf.{DefaultOf}
use Rattle.kconf_entries.specs.declared.entries.SelectOf.{SelectOf}
use Rattle.kconf_entries.specs.declared.expr.Expr.{Expr}
use Rattle.kconf_entries.specs.declared.expr.Expr.TheVariants as expr
use Rattle.kconf_words.specs.declared.line_words.Form.{Form}
use Rattle.kconf_words.specs.declared.line_words.Form.TheVariants as form
use Rattle.kconf_words.specs.declared.line_words.LineWord.{LineWord}
use Rattle.kconf_words.specs.declared.line_bad.SyntaxKind.{SyntaxKind}
use Rattle.kconf_words.specs.declared.line_bad.SyntaxKind.TheVariants as fault
use Rattle.kconf_words.specs.declared.line_bad.LineBad.{LineBad}
use Rattle.kconf_words.specs.declared.line_bad.LineBad.TheVariants as bad
use Rattle.kconf_words.specs.Kinds.{text_of, is_name, is_literal, is_word, is_text_form}
use Rattle.kconf_exprs.specs.Grammar.{Parsed, expression_at}

-- parentheses and `!` that may stand over one word of an expression
abbrev pub most_signs : ℕ
most_signs = 200

-- what the words that are left say, or their first fault
abbrev pub Rest : Type 0 → Type 0
Rest A = List LineWord → Result A LineBad

-- what is wanted, or this fault without it
abbrev pub wanted : {A : Type 0} → SyntaxKind → Option A → Result A LineBad
wanted kind None = Err (bad.Syntax kind)
wanted kind (Some x) = Ok x

-- nothing may be left
abbrev pub with_nothing_after : {A : Type 0} → A → Rest A
with_nothing_after x [] = Ok x
with_nothing_after x (w ∷ ws) = Err (bad.Syntax fault.Extra)

-- nothing
abbrev pub nothing : Rest (Unit {0})
nothing ws = with_nothing_after tt ws

-- a text: a quoted word or an unquoted one, and the words after it
abbrev pub text_at : List LineWord → Option (List LineWord)
text_at [] = None
text_at (w ∷ ws) = if is_text_form w.form then Some ws else None

-- one text
abbrev pub a_text : Rest (Unit {0})
a_text ws = wanted fault.Expression (text_at ws) >>= nothing

-- a name, and the words after it
abbrev pub name_at : List LineWord → Option (Bytes × List LineWord)
name_at [] = None
name_at (w ∷ ws) = if is_name w then Some (text_of w, ws) else None

-- one name
abbrev pub a_name : Rest Bytes
a_name ws = wanted fault.Named (name_at ws) >>= λ n. with_nothing_after n.0 n.1

-- one name, or nothing
abbrev pub a_name_or_nothing : Rest (Option Bytes)
a_name_or_nothing [] = Ok None
a_name_or_nothing (w ∷ ws) = a_name (w ∷ ws) >>= λ name. Ok (Some name)

-- a path: the file that it names beside the root text; no macro call may be left in it
abbrev pub file_of : Bytes → Bytes → Option Bytes
file_of root path = if is_utf8 path then beside root path else None

-- the file that a path names, whether a call is left in it, and the words after it
abbrev pub path_at : Bytes → List LineWord → Option (Bytes × Bool × List LineWord)
path_at root [] = None
path_at root (w ∷ ws) = if is_text_form w.form then option_and_then (λ file. Some (file, w.has_call, ws)) (file_of root w.text) else None

-- a file whose path has no macro call left
abbrev pub without_call : Bytes → Bool → Result Bytes LineBad
without_call file true = Err bad.Macro
without_call file false = Ok file

-- one path
abbrev pub a_path : Bytes → Rest Bytes
a_path root ws = wanted fault.Expression (path_at root ws) >>= λ p. with_nothing_after p.0 p.2 >>= λ file. without_call file p.1

-- an expression, with the words after it; the signs over its words are counted
abbrev pub expression : Rest Parsed
expression ws = wanted fault.Expression (expression_at ws)

-- one expression and nothing after it
abbrev pub expression_alone : Rest Parsed
expression_alone ws = expression ws >>= λ e. with_nothing_after e e.rest

-- a condition of a line's own, `if` and an expression; without one it is y
abbrev pub condition : Rest Parsed
condition [] = Ok (record { expr = expr.Const Y; signs = 0; rest = [] })
condition (w ∷ ws) = if is_word (codes "if") w then expression_alone ws else Err (bad.Syntax fault.Extra)

-- what is read, unless too many signs stand over one word
abbrev pub within_limit : {A : Type 0} → ℕ → A → Result A LineBad
within_limit signs x = if nat_le signs most_signs then Ok x else Err (bad.Depth limit.Brackets)

-- one expression, within the limit
abbrev pub an_expression : Rest Expr
an_expression ws = expression_alone ws >>= λ e. within_limit e.signs e.expr

-- a condition of a line's own, within the limit
abbrev pub a_condition : Rest Expr
a_condition ws = condition ws >>= λ c. within_limit c.signs c.expr

-- a text with a condition of its own
abbrev pub a_prompt : Rest Expr
a_prompt ws = wanted fault.Expression (text_at ws) >>= a_condition

-- a prompt, or none; then `if` begins a condition that has no effect
abbrev pub without_prompt : List LineWord → Bool
without_prompt [] = true
without_prompt (w ∷ ws) = is_word (codes "if") w

-- a text with a condition of its own, or a condition alone, or nothing
abbrev pub a_prompt_or_none : Rest (Option Expr)
a_prompt_or_none ws = if without_prompt ws then (a_condition ws >>= λ c. Ok None) else (a_prompt ws >>= λ c. Ok (Some c))

-- a name with a condition of its own
abbrev pub a_target : Rest SelectOf
a_target ws = wanted fault.Named (name_at ws) >>= λ n. a_condition n.1 >>= λ c. Ok (record { target = n.0; cond = c })

-- the text of a value: of one literal, or of one quoted word in which no macro call is left
abbrev pub is_quoted : Form → Bool
is_quoted form.Bare = false
is_quoted form.Quoted = true
is_quoted form.Sign = false

-- the text of a word as a value
abbrev pub word_text : LineWord → Option Bytes
word_text w = if is_literal w || (is_quoted w.form && not w.has_call) then Some (text_of w) else None

-- the text of a value that is one word, with these words after it
abbrev pub value_text : List LineWord → List LineWord → Option Bytes
value_text [] after = None
value_text (w ∷ ws) after = if length ws == length after then word_text w else None

-- a value with a condition of its own
abbrev pub a_value : Rest DefaultOf
a_value ws = expression ws >>= λ v. condition v.rest >>= λ c.
    within_limit (max v.signs c.signs) (record { value = v.expr; cond = c.expr; text = value_text ws v.rest })

-- any two words, with a condition of their own
abbrev pub two_words : Rest (Unit {0})
two_words [] = Err (bad.Syntax fault.Expression)
two_words (a ∷ []) = Err (bad.Syntax fault.Expression)
two_words (a ∷ b ∷ ws) = a_condition ws >>= λ c. Ok tt

-- whether the words are `modules` alone
abbrev pub is_modules : List LineWord → Bool
is_modules [] = false
is_modules (w ∷ []) = is_word (codes "modules") w
is_modules (w ∷ v ∷ ws) = false

-- anything; whether it is `modules`
abbrev pub anything : Rest Bool
anything ws = Ok (is_modules ws)
