-- Lists of tokens without operators between parts: units, what they stand for, and the text of an opaque piece.
-- Rule: ISO C, "Conditional inclusion"; Linux, include/linux/kconfig.h, for the IS_ names; opaque pieces are this
-- project's.
use Rattle.std.specs.Prelude.{◌++◌, Bool, true, false, not, ◌&&◌, ◌||◌, bytes_eq, codes, drop, Option, None, Some, List, [], ◌∷◌, if◌then◌else◌}
use Rattle.std.specs.List.{prefix_len}
use Rattle.ut_text.specs.Bytes.{Bytes, space}
use Rattle.cpp_read.specs.declared.token.Token.{Token}
use Rattle.cpp_read.specs.declared.token.Token.TheVariants.{Ident, Number, Quoted, Sign}
use Rattle.cpp_directives.specs.declared.condition.Cond.{Cond}
use Rattle.cpp_directives.specs.declared.condition.Cond.TheVariants as cond
use Rattle.cpp_read.specs.declared.number.Whole.{Whole}
use Rattle.cpp_read.specs.declared.number.Whole.TheVariants as number
use Rattle.cpp_read.specs.Numbers.{whole}
use Rattle.cpp_read.specs.Signs.{is_word, is_ident, is_atom, is_open, is_close, is_not, text_of}
use Rattle.cpp_read.specs.Depth.{is_group}

-- the texts of tokens, joined by one space
abbrev pub piece_text : List Token → Bytes
piece_text [] = []
piece_text (t ∷ []) = text_of t
piece_text (t ∷ u ∷ ts) = text_of t ++ space ∷ piece_text (u ∷ ts)

-- one token
abbrev pub is_one : List Token → Bool
is_one [] = false
is_one (t ∷ []) = is_atom t
is_one (t ∷ u ∷ ts) = false

-- `defined X`
abbrev pub is_defined : List Token → Bool
is_defined [] = false
is_defined (t ∷ []) = false
is_defined (t ∷ u ∷ []) = is_word (codes "defined") t && is_ident u
is_defined (t ∷ u ∷ v ∷ ts) = false

-- a name and a group
abbrev pub is_call : List Token → Bool
is_call [] = false
is_call (t ∷ ts) = is_ident t && is_group ts

-- an operand is one token, `defined X`, a group, or a name and a group
abbrev pub is_operand : List Token → Bool
is_operand ts = is_one ts || is_defined ts || is_group ts || is_call ts

-- a unit: any number of `!` in a row, and an operand
abbrev pub is_unit : List Token → Bool
is_unit ts = is_operand (drop (prefix_len is_not ts) ts)

-- `!` and a unit
abbrev pub is_negation : List Token → Bool
is_negation [] = false
is_negation (t ∷ ts) = is_not t && is_unit ts

-- the name that stands for X as a module
abbrev pub as_module : Bytes → Bytes
as_module x = x ++ codes "_MODULE"

-- IS_BUILTIN, IS_MODULE and IS_ENABLED of a name
abbrev pub kconfig_call : Bytes → Bytes → Option Cond
kconfig_call f x =
    if bytes_eq f (codes "IS_BUILTIN") then Some (cond.Plain x)
    else if bytes_eq f (codes "IS_MODULE") then Some (cond.Plain (as_module x))
    else if bytes_eq f (codes "IS_ENABLED") then Some (cond.AnyOf (cond.Plain x ∷ cond.Plain (as_module x) ∷ [])) else None

-- `defined(X)`, or one of these
abbrev pub name_call : Bytes → Bytes → Option Cond
name_call f x = if bytes_eq f (codes "defined") then Some (cond.Defined x) else kconfig_call f x

-- a name and a name in parentheses
abbrev pub called_by : Bytes → Token → Option Cond
called_by f (Ident x) = name_call f x
called_by f (Number x) = None
called_by f (Quoted x) = None
called_by f (Sign x) = None

-- the same, of a token as function
abbrev pub called : Token → Token → Option Cond
called (Ident f) t = called_by f t
called (Number f) t = None
called (Quoted f) t = None
called (Sign f) t = None

-- the same, with the parentheses
abbrev pub call_of : Token → Token → Token → Token → Option Cond
call_of t u v w = if not (is_open u) || not (is_close w) then None else called t v

-- `defined X`
abbrev pub defined_by : Token → Bytes → Option Cond
defined_by t x = if is_word (codes "defined") t then Some (cond.Defined x) else None

-- the same, of a token as name
abbrev pub defined_of : Token → Token → Option Cond
defined_of t (Ident x) = defined_by t x
defined_of t (Number x) = None
defined_of t (Quoted x) = None
defined_of t (Sign x) = None

-- a whole number: whether it isn't 0
abbrev pub number_cond : Whole → Option Cond
number_cond number.NotWhole = None
number_cond number.Zero = Some (cond.Const false)
number_cond number.Nonzero = Some (cond.Const true)
number_cond number.Wide = Some (cond.Const true)

-- a name is true, a whole number is not 0
abbrev pub single_of : Token → Option Cond
single_of (Ident x) = Some (cond.Plain x)
single_of (Number x) = number_cond (whole x)
single_of (Quoted x) = None
single_of (Sign x) = None

-- the condition of a list without operators, if it has one of these forms
abbrev pub leaf_of : List Token → Option Cond
leaf_of [] = None
leaf_of (t ∷ []) = single_of t
leaf_of (t ∷ u ∷ []) = defined_of t u
leaf_of (t ∷ u ∷ v ∷ []) = None
leaf_of (t ∷ u ∷ v ∷ w ∷ []) = call_of t u v w
leaf_of (t ∷ u ∷ v ∷ w ∷ x ∷ ts) = None

-- a list of another form is an opaque piece
abbrev pub or_piece : List Token → Option Cond → Cond
or_piece ts None = cond.Piece (piece_text ts)
or_piece ts (Some c) = c
