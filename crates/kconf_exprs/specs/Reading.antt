-- What the readers of expressions promise each other.
use Rattle.std.specs.Prelude.{◌≡◌, ℕ, ◌<◌, ◌≤◌, Bool, drop, Option, None, Some, List, if◌then◌else◌}
use Rattle.kconf_entries.specs.declared.expr.Expr.{Expr}
use Rattle.kconf_words.specs.declared.line_words.LineWord.{LineWord}
use Rattle.kconf_exprs.specs.declared.roles.Role.{Role}
use Rattle.kconf_exprs.specs.declared.reader.ExprBad.{ExprBad}
use Rattle.kconf_exprs.specs.declared.reader.ExprBad.TheVariants.{Absent, TooDeep, Oom}
use Rattle.kconf_exprs.specs.declared.joints.Joint.{Joint}
use Rattle.kconf_exprs.specs.declared.joints.Joint.TheVariants as joint
use Rattle.kconf_exprs.specs.Grammar.{Parsed, Reader, is_or, is_and, begins_with, disjunction, conjunction, joined_to, negated, closed, one_factor, expression_at, conjunction_at, factor_at, ◌>>=◌}

-- the sign of a list
abbrev pub joins : Joint → Role → Bool
joins joint.Any r = is_or r
joins joint.All r = is_and r

-- how two of its members are joined
abbrev pub join : Joint → Expr → Expr → Expr
join joint.Any a b = disjunction a b
join joint.All a b = conjunction a b

-- a list of this sign, and a member of one
abbrev pub list_at : Joint → Reader
list_at joint.Any ws = expression_at ws
list_at joint.All ws = conjunction_at ws

abbrev pub member_at : Joint → Reader
member_at joint.Any ws = conjunction_at ws
member_at joint.All ws = factor_at ws

-- a list that has begun
abbrev pub list_after : Joint → Parsed → Option Parsed
list_after j a = if begins_with (joins j) a.rest then (list_at j (drop 1 a.rest) >>= joined_to (join j) a) else Some a

-- this was read, and no more signs stand over a word than there is room for
pub record IsRead (room : ℕ) (read : Option Parsed) (e : Expr) (rest : List LineWord) : Type 0 where
  pub signs : ℕ
  pub within : signs ≤ room
  pub is : read ≡ Some (record { expr = e; signs = signs; rest = rest })

-- what is begun, and what is left after it, make the whole
pub record IsBegun (j : Joint) (room : ℕ) (whole : Option Parsed) (e : Expr) (rest : List LineWord) : Type 0 where
  pub signs : ℕ
  pub within : signs ≤ room
  pub left : list_after j (record { expr = e; signs = signs; rest = rest }) ≡ whole

-- each refusal has its cause
abbrev pub Refuses : ExprBad → ℕ → Option Parsed → Type 0
Refuses Absent room read = read ≡ None
Refuses TooDeep room read = (p : Parsed) → read ≡ Some p → room < p.signs
Refuses Oom room read = Unit {0}

-- a factor by its first word
abbrev pub factor_form : Reader
factor_form ws = one_factor factor_at expression_at ws

-- what is read after `!`, and after `(`
abbrev pub negated_at : Reader
negated_at ws = factor_at ws >>= negated

abbrev pub closed_at : Reader
closed_at ws = expression_at ws >>= closed

-- a refusal that has nothing to do with the room
abbrev pub RefusesAlways : ExprBad → Option Parsed → Type 0
RefusesAlways e read = (room : ℕ) → Refuses e room read
