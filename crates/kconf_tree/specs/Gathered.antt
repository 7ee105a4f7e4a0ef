-- The tree of a list of entries: one symbol for each name, in order of first declaration, with the
-- properties of all its places in the order of the text.
-- Rule: Linux kconfig-language, "Menu attributes" (a symbol may be declared in several places, and its
-- first type counts); the numbers, the choices' types and the outer conditions are this project's rule.
use Rattle.std.specs.Prelude.{ℕ, Bool, true, false, not, ◌&&◌, List, [], ◌∷◌, ◌++◌, Option, None, if◌then◌else◌, map, filter, position, suc, is_some}
use Rattle.std.specs.Option.{option_or}
use Rattle.std.specs.List.{list_any, flat_map}
use Rattle.ut_text.specs.Bytes.{Bytes}
use Rattle.ut_text.specs.Text.{text_eq}
use Rattle.kconf_entries.specs.declared.expr.Expr.{Expr}
use Rattle.kconf_entries.specs.declared.expr.Expr.TheOpen.{Expr-F}
use Rattle.kconf_entries.specs.declared.expr.Expr.TheFolds.{fold-Expr}
use Rattle.kconf_entries.specs.declared.entries.Kind.{Kind}
use Rattle.kconf_entries.specs.declared.entries.Kind.TheVariants as kind
use Rattle.kconf_entries.specs.declared.entries.DefaultOf.{DefaultOf}
use Rattle.kconf_entries.specs.declared.entries.SelectOf.{SelectOf}
use Rattle.kconf_entries.specs.declared.entries.ConfigEntry.{ConfigEntry}
use Rattle.kconf_entries.specs.declared.entries.ChoiceEntry.{ChoiceEntry}
use Rattle.kconf_entries.specs.declared.entries.Entries.{Entries}
use Rattle.kconf_tree.specs.declared.shape.Symbol.{Symbol}
use Rattle.kconf_tree.specs.declared.shape.Choice.{Choice}
use Rattle.kconf_tree.specs.Shape.{Shape, is_the}
use Rattle.kconf_tree.specs.Value.{is_text_or_number, Comparison, OfTrits, OfText, comparison_of}

-- the elements of a list, each at its first place
abbrev pub distinct : {A : Type 0} → (A → A → Bool) → List A → List A
distinct eq [] = []
distinct eq (x ∷ xs) = x ∷ filter (λ y. not (eq x y)) (distinct eq xs)

-- the texts of a list, each at its first place
abbrev pub once : List Bytes → List Bytes
once = distinct text_eq

-- the entries of one name
abbrev pub entries_named : List ConfigEntry → Bytes → List ConfigEntry
entries_named es name = filter (λ e. text_eq e.name name) es

-- an entry without a type line
abbrev pub is_untyped : Kind → Bool
is_untyped kind.Untyped = true
is_untyped k = false

-- the first type counts
abbrev pub first_kind : List ConfigEntry → Kind
first_kind [] = kind.Untyped
first_kind (e ∷ es) = if is_untyped e.kind then first_kind es else e.kind

-- the choice of the first entry that stands in one
abbrev pub first_choice : List ConfigEntry → Option ℕ
first_choice [] = None
first_choice (e ∷ es) = option_or e.choice (first_choice es)

-- a symbol of strings or numbers is no member of the choice that it stands in
abbrev pub member_choice : Kind → Option ℕ → Option ℕ
member_choice k choice = if is_text_or_number k then None else choice

-- the symbol of the entries of one name
abbrev pub symbol_of : List ConfigEntry → Bytes → Symbol
symbol_of es name = record {
  name = name;
  kind = first_kind es;
  member_of = member_choice (first_kind es) (first_choice es);
  places = map (λ (e : ConfigEntry). e.depends) es;
  prompts = flat_map (λ (e : ConfigEntry). e.prompts) es;
  defaults = flat_map (λ (e : ConfigEntry). e.defaults) es;
  selects = flat_map (λ (e : ConfigEntry). e.selects) es;
  implies = flat_map (λ (e : ConfigEntry). e.implies) es;
}

-- the symbols, in order of first declaration
abbrev pub symbols_of : List ConfigEntry → List Symbol
symbols_of es = map (λ name. symbol_of (entries_named es name) name) (once (map (λ (e : ConfigEntry). e.name) es))

-- ---- choices

-- a member of the choice with this number
abbrev pub is_member_of : ℕ → Symbol → Bool
is_member_of i s = is_the s.member_of i

-- the places in a list at which a test passes
abbrev pub places_from : {A : Type 0} → ℕ → (A → Bool) → List A → List ℕ
places_from n p [] = []
places_from n p (x ∷ xs) = if p x then n ∷ places_from (suc n) p xs else places_from (suc n) p xs

-- bool or tristate
abbrev pub is_trit_type : Kind → Bool
is_trit_type kind.Bool = true
is_trit_type kind.Tristate = true
is_trit_type kind.Str = false
is_trit_type kind.Hex = false
is_trit_type kind.Int = false
is_trit_type kind.Untyped = false

-- an entry that types its choice: it is bool or tristate, and its symbol has no text or number
abbrev pub types_choice : List ConfigEntry → ℕ → ConfigEntry → Bool
types_choice es i e = is_the e.choice i && (is_trit_type e.kind && not (is_text_or_number (first_kind (entries_named es e.name))))

-- a choice's type is its own, else that of the first entry that types it, else bool
abbrev pub first_typed : List ConfigEntry → Kind
first_typed [] = kind.Bool
first_typed (e ∷ es) = e.kind

-- where the choice has no type of its own
abbrev pub choice_kind : List ConfigEntry → ℕ → Kind → Kind
choice_kind es i k = if is_untyped k then first_typed (filter (types_choice es i) es) else k

-- the choice with this number
abbrev pub choice_of : List ConfigEntry → ℕ → ChoiceEntry → Choice
choice_of es i e = record {
  kind = choice_kind es i e.kind;
  members = places_from 0 (is_member_of i) (symbols_of es);
  prompts = e.prompts;
  defaults = e.defaults;
  optional = e.optional;
}

-- the choices in order, from this number on
abbrev pub choices_from : List ConfigEntry → ℕ → List ChoiceEntry → List Choice
choices_from es i [] = []
choices_from es i (e ∷ cs) = choice_of es i e ∷ choices_from es (suc i) cs

-- ---- the modules symbol: the first that is bool or tristate and has `modules`

-- a symbol that is bool or tristate, an untyped member included
abbrev pub is_bool_or_tristate : Symbol → Bool
is_bool_or_tristate s = by s.kind
  where
    by : Kind → Bool
    by kind.Bool = true
    by kind.Tristate = true
    by kind.Untyped = is_some s.member_of
    by k = false

-- an entry of the symbol has `modules`
abbrev pub has_modules_line : List ConfigEntry → Symbol → Bool
has_modules_line es s = list_any (λ (e : ConfigEntry). e.modules) (entries_named es s.name)

-- the number of the modules symbol
abbrev pub modules_of : List ConfigEntry → Option ℕ
modules_of es = position (λ s. is_bool_or_tristate s && has_modules_line es s) (symbols_of es)

-- ---- outer conditions, by first appearance in the entries

-- the texts of all parts, in order
abbrev pub joined : List (List Bytes) → List Bytes
joined = flat_map (λ texts. texts)

-- that of a comparison
abbrev pub compared_outers : Comparison → List Bytes
compared_outers OfTrits = []
compared_outers (OfText text) = text ∷ []

-- `t` has the types that names are declared with
abbrev pub outers_step : Shape → Expr-F (List Bytes) → List Bytes
outers_step t (Expr-F.Outer text) = text ∷ []
outers_step t (Expr-F.Compare left s right) = compared_outers (comparison_of t left s right)
outers_step t (Expr-F.Neg texts) = texts
outers_step t (Expr-F.And lists) = joined lists
outers_step t (Expr-F.Or lists) = joined lists
outers_step t e = []

-- the outer conditions in an expression, in order
abbrev pub outers_in : Shape → Expr → List Bytes
outers_in t = fold-Expr (List Bytes) (outers_step t)

-- in an entry, in the order of its properties
abbrev pub outers_of_config : Shape → ConfigEntry → List Bytes
outers_of_config t e = outers_in t e.depends ++ flat_map (outers_in t) e.prompts
    ++ flat_map (λ (d : DefaultOf). outers_in t d.value ++ outers_in t d.cond) e.defaults
    ++ flat_map (λ (s : SelectOf). outers_in t s.cond) e.selects ++ flat_map (λ (s : SelectOf). outers_in t s.cond) e.implies

-- in a choice
abbrev pub outers_of_choice : Shape → ChoiceEntry → List Bytes
outers_of_choice t e = flat_map (outers_in t) e.prompts ++ flat_map (λ (s : SelectOf). outers_in t s.cond) e.defaults

-- ---- the tree

-- the symbols and choices alone, which have the types of names
abbrev pub without_outers : Entries → Shape
without_outers e = record { symbols = symbols_of e.configs; choices = choices_from e.configs 0 e.choices; outers = []; modules = modules_of e.configs }

-- the whole tree of the entries
abbrev pub gathered : Entries → Shape
gathered e = record (without_outers e) { outers = once (flat_map (outers_of_config (without_outers e)) e.configs ++ flat_map (outers_of_choice (without_outers e)) e.choices) }
