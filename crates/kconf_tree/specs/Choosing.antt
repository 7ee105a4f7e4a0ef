-- How choices get their types and members, one entry or symbol after another. No public contract cites
-- this module.
use Rattle.std.specs.Prelude.{ℕ, Bool, false, not, ◌&&◌, List, [], ◌∷◌, ◌++◌, Option, None, Some, if◌then◌else◌, slice_index_or, slice_set, suc}
use Rattle.ut_text.specs.Bytes.{Bytes}
use Rattle.kconf_entries.specs.declared.entries.Kind.{Kind}
use Rattle.kconf_entries.specs.declared.entries.Kind.TheVariants as kind
use Rattle.kconf_entries.specs.declared.entries.ConfigEntry.{ConfigEntry}
use Rattle.kconf_entries.specs.declared.entries.ChoiceEntry.{ChoiceEntry}
use Rattle.kconf_tree.specs.declared.shape.Symbol.{Symbol}
use Rattle.kconf_tree.specs.declared.shape.Choice.{Choice}
use Rattle.kconf_tree.specs.declared.types.Declared.{Declared}
use Rattle.kconf_tree.specs.Shape.{no_choice, number_of}
use Rattle.kconf_tree.specs.Value.{is_text_or_number}
use Rattle.kconf_tree.specs.Gathered.{is_untyped, is_trit_type}
use Rattle.kconf_tree.specs.Types.{typed, declared_at}

-- a type, bool or tristate, of a symbol that has no text or number
abbrev pub is_type_line : List (Bytes × Declared) → Kind → Option ℕ → Bool
is_type_line ts k None = false
is_type_line ts k (Some n) = is_trit_type k && not (is_text_or_number (declared_at ts n).kind)

-- whether the entry has one
abbrev pub has_type_line : List (Bytes × Declared) → ConfigEntry → Bool
has_type_line ts e = is_type_line ts e.kind (number_of (typed ts) e.name)

-- the types of the choices, where the one with this number has another line
abbrev pub typed_at : Bool → Kind → List Kind → Option ℕ → List Kind
typed_at line k ks None = ks
typed_at line k ks (Some i) = if is_untyped (slice_index_or ks i kind.Untyped) && line then slice_set ks i k else ks

-- after one entry
abbrev pub typed_by : List (Bytes × Declared) → List Kind → ConfigEntry → List Kind
typed_by ts ks e = typed_at (has_type_line ts e) e.kind ks e.choice

-- after all entries
abbrev pub typed_by_all : List (Bytes × Declared) → List Kind → List ConfigEntry → List Kind
typed_by_all ts ks [] = ks
typed_by_all ts ks (e ∷ es) = typed_by_all ts (typed_by ts ks e) es

-- bool where no line gives a type
abbrev pub else_bool : Kind → Kind
else_bool k = if is_untyped k then kind.Bool else k

-- a choice without members
abbrev pub bare_choice : Kind → ChoiceEntry → Choice
bare_choice k e = record { kind = else_bool k; members = []; prompts = e.prompts; defaults = e.defaults; optional = e.optional }

-- the choices without members
abbrev pub bare_choices : List Kind → List ChoiceEntry → List Choice
bare_choices [] es = []
bare_choices (k ∷ ks) [] = []
bare_choices (k ∷ ks) (e ∷ es) = bare_choice k e ∷ bare_choices ks es

-- a choice with one more member
abbrev pub with_one : Choice → ℕ → Choice
with_one c k = record c { members = c.members ++ k ∷ [] }

-- the choices with one more symbol, in the choice with this number
abbrev pub with_member : List Choice → ℕ → Option ℕ → List Choice
with_member cs k None = cs
with_member cs k (Some i) = slice_set cs i (with_one (slice_index_or cs i no_choice) k)

-- with all symbols, from this number on
abbrev pub with_members : List Choice → ℕ → List Symbol → List Choice
with_members cs k [] = cs
with_members cs k (s ∷ ss) = with_members (with_member cs k s.member_of) (suc k) ss
