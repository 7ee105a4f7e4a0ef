-- The formulas of the starts of macros: that a macro is defined, and that it is defined and true.
-- Rule: those of the states at the start; formulas are this project's rule.
use Rattle.std.specs.Prelude.{ℕ, suc, Bool, true, false, List, [], ◌∷◌, ◌++◌, Option, None, Some, map}
use Rattle.std.specs.List.{flat_map}
use Rattle.std.specs.Option.{option_to_list}
use Rattle.ut_text.specs.Bytes.{Bytes}
use Rattle.ut_logic.specs.declared.item.Item.TheVariants as item
use Rattle.ut_logic.specs.declared.node.Node.{Node}
use Rattle.ut_logic.specs.declared.node.Node.TheVariants as node
use Rattle.ut_logic.specs.declared.formula.Formula.{Formula}
use Rattle.ut_logic.specs.declared.formula.Formula.TheVariants.{No, Is}
use Rattle.ut_logic.specs.Fold.{all_of, any_of}
use Rattle.ut_logic.specs.Owners.{owner}
use Rattle.ut_logic.specs.Truth.{mentioned, together}
use Rattle.kconf_tree.specs.declared.shape.Counts.{Counts}
use Rattle.kconf_tree.specs.declared.shape.Counts.TheVariants as counts
use Rattle.kconf_tree.specs.Shape.{Shape, symbol_at, counts_as, number_of}
use Rattle.kconf_tree.specs.Value.{is_text_or_number}
use Rattle.kconf_constr.specs.FactsOf.{loose_items}
use Rattle.kconf_constr.specs.Levels.{undeclared_formula}
use Rattle.kconf_constr.specs.PropertyFormulas.{written_formula}
use Rattle.kconf_constr.specs.Scope.{Scope, with_undeclared, number_among}
use Rattle.cpp_blocks.specs.declared.starts.StartOf.{StartOf}
use Rattle.ut_case.specs.declared.question.Family.{Family}
use Rattle.ut_case.specs.declared.question.Family.TheVariants as family
use Rattle.ut_case.specs.Names.{config_name, module_of}
use Rattle.ut_case.specs.Numbering.{Shared}
use Rattle.ut_case.specs.Problem.{Basis, OfTree, OfRules}

-- defined; and defined and true
pub record Formulas : Type 0 where
  pub d : Formula
  pub t : Formula

-- defined exactly where it is true
abbrev pub present : Formula → Formulas
present f = record { d = f; t = f }

-- the undeclared names that a family reads as n or y
abbrev pub undeclared_in : Shared → Family → List Bytes
undeclared_in s family.Code = []
undeclared_in s family.Kconfig = s.undeclared
undeclared_in s family.Whole = []

-- what a tree's conditions are read in
abbrev pub scope_of : Shared → Family → Shape → Scope
scope_of s f t = with_undeclared t (undeclared_in s f)

-- ---- over a tree

-- that a symbol which counts as this is m
abbrev pub is_m_as : Counts → ℕ → Formula
is_m_as counts.Bool k = No
is_m_as counts.Tristate k = Is (item.SymM k)
is_m_as counts.Neither k = No

-- that a symbol is m
abbrev pub is_m : Scope → ℕ → Formula
is_m s k = is_m_as (counts_as s.shape k) k

-- the part of N: a symbol of strings or numbers is defined where it is written, and its truth is free
abbrev pub text_start : Formula → ℕ → ℕ → Formulas
text_start written file n = record { d = written; t = all_of (written ∷ Is (item.Truth file n) ∷ []) }

-- a symbol that counts as neither bool nor tristate is a text or a number, or has no type
abbrev pub neither_start : Scope → ℕ → ℕ → ℕ → Bool → Formulas
neither_start s file n k true = text_start (written_formula s k) file n
neither_start s file n k false = present No

-- the part of N by what it counts as
abbrev pub own_start_as : Scope → ℕ → ℕ → ℕ → Counts → Formulas
own_start_as s file n k counts.Bool = present (Is (item.SymY k))
own_start_as s file n k counts.Tristate = present (Is (item.SymY k))
own_start_as s file n k counts.Neither = neither_start s file n k (is_text_or_number (symbol_at s.shape k).kind)

-- the part of N
abbrev pub own_start : Scope → ℕ → ℕ → ℕ → Formulas
own_start s file n k = own_start_as s file n k (counts_as s.shape k)

-- either holds
abbrev pub either : Formulas → Formula → Formulas
either own m = record { d = any_of (own.d ∷ m ∷ []); t = any_of (own.t ∷ m ∷ []) }

-- `CONFIG_N`, from the numbers of N and of the P of N = `P_MODULE`; an undeclared name has its item where it may be y
abbrev pub tree_start : Scope → ℕ → ℕ → Bytes → Option ℕ → Option ℕ → Formulas
tree_start s file n name None None = present (undeclared_formula (number_among s.undeclared name))
tree_start s file n name None (Some m) = present (is_m s m)
tree_start s file n name (Some k) None = own_start s file n k
tree_start s file n name (Some k) (Some m) = either (own_start s file n k) (is_m s m)

-- ---- with the nodes and items that they name

-- the nodes that have what formulas mention
abbrev pub owners_in : List Formula → List Node
owners_in fs = flat_map (λ i. option_to_list (owner i)) (together (map mentioned fs))

-- it names these nodes, and those of all that it mentions; its loose items stand beside it
abbrev pub start_of : Formulas → List Node → StartOf
start_of f names = record {
  d = f.d;
  t = f.t;
  names = names ++ owners_in (f.d ∷ f.t ∷ []);
  items = loose_items (f.d ∷ f.t ∷ []);
}

-- a free start
abbrev pub free_start_of : ℕ → ℕ → StartOf
free_start_of file n = start_of (record { d = Is (item.StartD file n); t = Is (item.StartT file n) }) []

-- the nodes of symbols
abbrev pub symbol_nodes : List ℕ → List Node
symbol_nodes ks = map (λ k. node.Sym k) ks

-- it names N and P wherever they are declared
abbrev pub tree_start_of : Scope → ℕ → ℕ → Bytes → Option ℕ → Option ℕ → StartOf
tree_start_of s file n name k m = start_of (tree_start s file n name k m) (symbol_nodes (option_to_list k ++ option_to_list m))

-- over a model text: the item of the name with this number, or of the undeclared one
abbrev pub rule_start_of : List Bytes → Bytes → Option ℕ → StartOf
rule_start_of names name None = start_of (present (undeclared_formula (number_among names name))) []
rule_start_of names name (Some k) = start_of (present (Is (item.SymY k))) (symbol_nodes (k ∷ []))

-- ---- the starts of a source

-- the start of `CONFIG_N`
abbrev pub config_start_of : Shared → Family → Basis → ℕ → ℕ → Bytes → Bytes → StartOf
config_start_of s f (OfTree t) file n macro name = tree_start_of (scope_of s f t) file n name (number_of t name) (module_of t name)
config_start_of s f (OfRules r) file n macro name = rule_start_of (undeclared_in s f) name (number_among r.names macro)

-- by the N of the macro, if it has one
abbrev pub named_start_of : Shared → Family → ℕ → ℕ → Bytes → Option Bytes → StartOf
named_start_of s f file n macro None = free_start_of file n
named_start_of s f file n macro (Some name) = config_start_of s f s.basis file n macro name

-- the start of the macro with a number; family Code leaves each free
abbrev pub macro_start_of : Shared → Family → ℕ → ℕ → Bytes → StartOf
macro_start_of s family.Code file n macro = free_start_of file n
macro_start_of s family.Kconfig file n macro = named_start_of s family.Kconfig file n macro (config_name macro)
macro_start_of s family.Whole file n macro = named_start_of s family.Whole file n macro (config_name macro)

-- the starts of the macros from this number on
abbrev pub starts_from : Shared → Family → ℕ → ℕ → List Bytes → List StartOf
starts_from s f file n [] = []
starts_from s f file n (macro ∷ macros) = macro_start_of s f file n macro ∷ starts_from s f file (suc n) macros
