-- What the readers of words promise each other. Want of memory may come in place of every answer.
use Rattle.std.specs.Prelude.{◌≡◌, ℕ, nat_le, Bool, Option, None, Some, Result, Ok, Err, List, if◌then◌else◌}
use Rattle.std.specs.Borrow.{Bor}
use Rattle.ut_text.specs.Bytes.{Bytes}
use Rattle.ut_text.specs.Results.{◌>>=◌}
use Rattle.ut_base.specs.declared.limits.Limit.TheVariants as limit
use Rattle.kconf_entries.specs.declared.entries.DefaultOf.{DefaultOf}
use Rattle.kconf_entries.specs.declared.expr.Expr.{Expr}
use Rattle.kconf_words.specs.declared.line_words.Form.{Form}
use Rattle.kconf_words.specs.declared.line_words.LineWord.{LineWord}
use Rattle.kconf_words.specs.declared.line_bad.SyntaxKind.TheVariants as fault
use Rattle.kconf_words.specs.declared.line_bad.LineBad.{LineBad}
use Rattle.kconf_words.specs.declared.line_bad.LineBad.TheVariants as bad
use Rattle.kconf_words.specs.Kinds as kinds
use Rattle.kconf_words.specs.Faults.{Fails}
use Rattle.kconf_exprs.specs.Grammar.{Parsed}
use Rattle.kconf_rests.specs.declared.expressions.ExprAt.{ExprAt}
use Rattle.kconf_rests.specs.Rests.{most_signs, wanted, text_at, name_at, expression}

abbrev pub is_text_form : Form → Bool
is_text_form = kinds.is_text_form

-- nothing is said, or a fault
abbrev pub GivesNothing : {A : Type 0} → Result A LineBad → Result (Unit {0}) LineBad → Type 0
GivesNothing (Ok x) read = read ≡ Ok tt
GivesNothing (Err e) read = Fails e read

-- the words after a text
abbrev pub TextAt : List LineWord → Result (Bor (List LineWord)) LineBad → Type 0
TextAt ws (Ok rest) = wanted fault.Expression (text_at ws) ≡ Ok rest.now
TextAt ws (Err e) = Fails e (wanted fault.Expression (text_at ws))

-- a name, and the words after it
abbrev pub NameAt : List LineWord → Result (Bytes × Bor (List LineWord)) LineBad → Type 0
NameAt ws (Ok n) = wanted fault.Named (name_at ws) ≡ Ok (n.0, n.1.now)
NameAt ws (Err e) = Fails e (wanted fault.Named (name_at ws))

-- an expression over whose words not too many signs stand, or none
abbrev pub kept : Parsed → Option Expr
kept p = if nat_le p.signs most_signs then Some p.expr else None

-- this was read, with what is kept of it
pub record IsKept (read : Result Parsed LineBad) (e : Option Expr) : Type 0 where
  pub parsed : Parsed
  pub is : read ≡ Ok parsed
  pub expr : e ≡ kept parsed

-- an expression, and the words after it
pub record IsKeptAt (read : Result Parsed LineBad) (a : ExprAt) : Type 0 where
  pub parsed : Parsed
  pub is : read ≡ Ok parsed
  pub expr : a.expr ≡ kept parsed
  pub rest : a.rest.now ≡ parsed.rest

abbrev pub ExpressionAt : List LineWord → Result ExprAt LineBad → Type 0
ExpressionAt ws (Ok a) = IsKeptAt (expression ws) a
ExpressionAt ws (Err e) = Fails e (expression ws)

-- one expression
abbrev pub OneExpression : Result Parsed LineBad → Result (Option Expr) LineBad → Type 0
OneExpression read (Ok e) = IsKept read e
OneExpression read (Err e) = Fails e read

-- an expression that is kept
abbrev pub limited : Option Expr → Result Expr LineBad
limited None = Err (bad.Depth limit.Brackets)
limited (Some e) = Ok e

-- a default of which both are kept
abbrev pub limited_default : Option Expr → Option Expr → Option Bytes → Result DefaultOf LineBad
limited_default value cond text = limited value >>= λ v. limited cond >>= λ c. Ok (record { value = v; cond = c; text = text })
