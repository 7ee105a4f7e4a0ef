-- The expressions of a list of words. From the tightest: a symbol; a comparison of two words; parentheses; `!`;
-- `&&`; `||`. Rule: Linux kconfig-language, "Menu dependencies"; what stands for a word that is no name, and the
-- text of an outer condition, are this project's.
use Rattle.std.specs.Prelude.{ℕ, suc, zero, ◌+◌, ◌*◌, Bool, true, false, ◌||◌, bytes_eq, codes, length, drop, max, ◌++◌, Option, None, Some, List, [], ◌∷◌, if◌then◌else◌}
use Rattle.ut_text.specs.Bytes.{Bytes}
use Rattle.ut_logic.specs.declared.trit.Trit.{Trit}
use Rattle.ut_logic.specs.declared.trit.Trit.TheVariants.{N}
use Rattle.ut_text.specs.Escapes.{escaped}
use Rattle.kconf_entries.specs.declared.expr.Expr.{Expr, out-Expr}
use Rattle.kconf_entries.specs.declared.expr.Expr.TheOpen.{Expr-F}
use Rattle.kconf_entries.specs.declared.expr.Expr.TheVariants as expr
use Rattle.kconf_entries.specs.declared.expr.Side.{Side}
use Rattle.kconf_entries.specs.declared.expr.Side.TheVariants as side
use Rattle.kconf_entries.specs.declared.expr.Sign.{Sign}
use Rattle.kconf_entries.specs.declared.expr.Sign.TheVariants as sign
use Rattle.kconf_words.specs.declared.line_words.Form.{Form}
use Rattle.kconf_words.specs.declared.line_words.Form.TheVariants as form
use Rattle.kconf_words.specs.declared.line_words.LineWord.{LineWord}
use Rattle.kconf_exprs.specs.declared.roles.Role.{Role}
use Rattle.kconf_exprs.specs.declared.roles.Role.TheVariants as role
use Rattle.kconf_words.specs.Kinds.{text_of, constant_of, is_name}

-- what a sign says
abbrev pub role_of_sign : Bytes → Role
role_of_sign text = if bytes_eq text (codes "!") then role.Not
    else if bytes_eq text (codes "&&") then role.And
    else if bytes_eq text (codes "||") then role.Or
    else if bytes_eq text (codes "(") then role.Open
    else if bytes_eq text (codes ")") then role.Close
    else if bytes_eq text (codes "=") then role.Compares sign.Same
    else if bytes_eq text (codes "!=") then role.Compares sign.Differ
    else if bytes_eq text (codes "<") then role.Compares sign.Less
    else if bytes_eq text (codes ">") then role.Compares sign.More
    else if bytes_eq text (codes "<=") then role.Compares sign.LessSame
    else if bytes_eq text (codes ">=") then role.Compares sign.MoreSame
    else role.Other

-- what a word is in an expression: a word that is no sign is an operand
abbrev pub role_by : Form → Bytes → Role
role_by form.Bare text = role.Operand
role_by form.Quoted text = role.Operand
role_by form.Sign text = role_of_sign text

abbrev pub role_of : LineWord → Role
role_of w = role_by w.form w.text

-- an operand without a macro call: a constant, a name, or n for every other word
abbrev pub plain_operand : LineWord → Option Trit → Expr
plain_operand w (Some value) = expr.Const value
plain_operand w None = if is_name w then expr.Name (text_of w) else expr.Const N

-- an operand in which a macro call is left is an outer condition
abbrev pub operand : LineWord → Expr
operand w = if w.has_call then expr.Outer (text_of w) else plain_operand w (constant_of w)

-- a side of a comparison
abbrev pub word_side : Form → Bool → Bytes → Side
word_side form.Quoted named text = side.Quoted text
word_side form named text = if named then side.Name text else side.Literal text

abbrev pub side_by : LineWord → Option Trit → Side
side_by w (Some value) = side.Const value
side_by w None = word_side w.form (is_name w) (text_of w)

abbrev pub side_of : LineWord → Side
side_of w = side_by w (constant_of w)

-- how a side is written: a quoted word that is no constant stands between `"` (34)
abbrev pub written_by : Form → Option Trit → Bytes → Bytes
written_by form.Quoted None text = 34 ∷ text ++ 34 ∷ []
written_by form value text = text

abbrev pub written : LineWord → Bytes
written w = written_by w.form (constant_of w) w.text

-- two words compared: left side, sign and right side with one space (32) between, where a macro call is left
abbrev pub compared : LineWord → LineWord → Sign → LineWord → Expr
compared a s sign b = if a.has_call || b.has_call then expr.Outer (escaped (written a ++ 32 ∷ s.text ++ 32 ∷ written b))
    else expr.Compare (side_of a) sign (side_of b)

-- the members that a condition has in a list of `||`, and in one of `&&`: a list of the same sign is opened
abbrev pub any_members_at : Expr → Expr-F Expr → List Expr
any_members_at e (Expr-F.Or es) = es
any_members_at e _ = e ∷ []

abbrev pub all_members_at : Expr → Expr-F Expr → List Expr
all_members_at e (Expr-F.And es) = es
all_members_at e _ = e ∷ []

abbrev pub any_members : Expr → List Expr
any_members e = any_members_at e (out-Expr e)

abbrev pub all_members : Expr → List Expr
all_members e = all_members_at e (out-Expr e)

abbrev pub disjunction : Expr → Expr → Expr
disjunction a b = expr.Or (any_members a ++ any_members b)

abbrev pub conjunction : Expr → Expr → Expr
conjunction a b = expr.And (all_members a ++ all_members b)

-- an expression that was read, the words left after it, and the greatest number of signs over one of its words: the
-- parentheses round it, and the `!` directly before it or before one of these
pub record Parsed : Type 0 where
  pub expr : Expr
  pub signs : ℕ
  pub rest : List LineWord

abbrev pub Reader : Type 0
Reader = List LineWord → Option Parsed

-- what is read next, where something was read
infixl 10 ◌>>=◌
abbrev pub ◌>>=◌ : Option Parsed → (Parsed → Option Parsed) → Option Parsed
None >>= f = None
(Some a) >>= f = f a

abbrev pub is_or : Role → Bool
is_or role.Or = true
is_or r = false

abbrev pub is_and : Role → Bool
is_and role.And = true
is_and r = false

abbrev pub is_close : Role → Bool
is_close role.Close = true
is_close r = false

-- whether a list of words begins with such a one
abbrev pub begins_with : (Role → Bool) → List LineWord → Bool
begins_with is [] = false
begins_with is (w ∷ ws) = is (role_of w)

abbrev pub joined_to : (Expr → Expr → Expr) → Parsed → Parsed → Option Parsed
joined_to join a b = Some (record { expr = join a.expr b.expr; signs = max a.signs b.signs; rest = b.rest })

-- one, and where the sign stands after it, others
abbrev pub joined_by : (Role → Bool) → (Expr → Expr → Expr) → Reader → Reader → Reader
joined_by is join one others ws = one ws >>= λ a. if begins_with is a.rest then (others (drop 1 a.rest) >>= joined_to join a) else Some a

-- two words compared, where the second is an operand
abbrev pub right_by : Role → LineWord → LineWord → Sign → LineWord → List LineWord → Option Parsed
right_by role.Operand a s sign b ws = Some (record { expr = compared a s sign b; signs = 0; rest = ws })
right_by r a s sign b ws = None

abbrev pub right_side : LineWord → LineWord → Sign → List LineWord → Option Parsed
right_side a s sign [] = None
right_side a s sign (b ∷ ws) = right_by (role_of b) a s sign b ws

-- an operand, or two words compared where the sign of a comparison stands after the first
abbrev pub symbol_by : Role → LineWord → LineWord → List LineWord → Option Parsed
symbol_by (role.Compares sign) a s ws = right_side a s sign ws
symbol_by r a s ws = Some (record { expr = operand a; signs = 0; rest = s ∷ ws })

abbrev pub symbol : LineWord → List LineWord → Option Parsed
symbol a [] = Some (record { expr = operand a; signs = 0; rest = [] })
symbol a (s ∷ ws) = symbol_by (role_of s) a s ws

abbrev pub negated : Parsed → Option Parsed
negated a = Some (record { expr = expr.Neg a.expr; signs = suc a.signs; rest = a.rest })

-- what stands in parentheses, and the closing one
abbrev pub closed : Parsed → Option Parsed
closed a = if begins_with is_close a.rest then Some (record { expr = a.expr; signs = suc a.signs; rest = drop 1 a.rest }) else None

-- a factor by its first word
abbrev pub factor_by : Role → Reader → Reader → LineWord → Reader
factor_by role.Not factor expression w ws = factor ws >>= negated
factor_by role.Open factor expression w ws = expression ws >>= closed
factor_by role.Operand factor expression w ws = symbol w ws
factor_by r factor expression w ws = None

abbrev pub one_factor : Reader → Reader → Reader
one_factor factor expression [] = None
one_factor factor expression (w ∷ ws) = factor_by (role_of w) factor expression w ws

-- how tightly: alternatives joined by `||`, conjuncts joined by `&&`, or one factor
pub data Level : Type 0 where
  Alternatives : Level
  Conjuncts : Level
  Factor : Level

-- what the grammar reads with n steps down at most
unfoldable pub within : ℕ → Level → Reader
within zero level ws = None
within (suc n) Alternatives ws = joined_by is_or disjunction (within n Conjuncts) (within n Alternatives) ws
within (suc n) Conjuncts ws = joined_by is_and conjunction (within n Factor) (within n Conjuncts) ws
within (suc n) Factor ws = one_factor (within n Factor) (within n Alternatives) ws

-- the expression that a list of words begins with, with as many steps as its words can take; or none stands there
unfoldable pub expression_at : Reader
expression_at ws = within (3 * length ws + 3) Alternatives ws

unfoldable pub conjunction_at : Reader
conjunction_at ws = within (3 * length ws + 2) Conjuncts ws

unfoldable pub factor_at : Reader
factor_at ws = within (3 * length ws + 1) Factor ws
