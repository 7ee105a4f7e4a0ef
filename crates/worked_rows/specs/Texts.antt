-- The Kconfig texts, model texts and sources of the rows, as the entries, rules and directives that they are read as.
-- Rule: this project's own. That texts are read so is a law for those that the readers of the first forms take.
use Rattle.std.specs.Prelude.{ℕ, true, false, List, [], ◌∷◌, Some, codes, suc}
use Rattle.ut_text.specs.Bytes.{Bytes}
use Rattle.cpp_directives.specs.declared.directive.Directive.{Directive}
use Rattle.cpp_directives.specs.declared.directive.What.{What}
use Rattle.cpp_directives.specs.declared.directive.What.TheVariants.{If, Elif, Else, Endif, Define}
use Rattle.cpp_directives.specs.declared.directive.Gives.TheVariants.{Free}
use Rattle.cpp_directives.specs.declared.condition.Cond.TheVariants.{Defined, Plain, Neg}
use Rattle.ut_logic.specs.declared.facts.Rules.{Rules}
use Rattle.ut_logic.specs.declared.formula.Formula.TheVariants as formula
use Rattle.ut_logic.specs.declared.item.Item.TheVariants.{SymY}
use Rattle.ut_logic.specs.declared.trit.Trit.TheVariants.{N, Y}
use Rattle.kconf_entries.specs.declared.expr.Expr.TheVariants.{Const}
use Rattle.kconf_entries.specs.declared.entries.Kind.TheVariants as kind
use Rattle.kconf_entries.specs.declared.entries.Entries.{Entries}
use Rattle.kconf_entries.specs.BoolEntries.{bool_entry}
use Rattle.kconf_tree.specs.Shape.{Shape}
use Rattle.kconf_tree.specs.Gathered.{gathered}

-- ---- Kconfig texts

-- two bool symbols with a prompt each: A, and B that depends on A
abbrev pub two_symbols : Entries
two_symbols = record { configs = bool_entry (codes "A") [] ∷ bool_entry (codes "B") (codes "A" ∷ []) ∷ []; choices = [] }

-- its tree
abbrev pub two_tree : Shape
two_tree = gathered two_symbols

-- A without a prompt, and B with one, which selects A
abbrev pub selected_symbol : Entries
selected_symbol = record {
  configs = record (bool_entry (codes "A") []) { prompts = [] } ∷ record (bool_entry (codes "B") []) { selects = record { target = codes "A"; cond = Const Y } ∷ [] } ∷ [];
  choices = [];
}

-- its tree
abbrev pub selecting_tree : Shape
selecting_tree = gathered selected_symbol

-- a bool choice with a prompt, of A and B, each with a prompt
abbrev pub choice_of_two : Entries
choice_of_two = record {
  configs = record (bool_entry (codes "A") []) { choice = Some 0 } ∷ record (bool_entry (codes "B") []) { choice = Some 0 } ∷ [];
  choices = record { kind = kind.Bool; optional = false; prompts = Const Y ∷ []; defaults = [] } ∷ [];
}

-- its tree
abbrev pub choosing_tree : Shape
choosing_tree = gathered choice_of_two

-- the tristate A, and MODULES with `modules`, both with a prompt
abbrev pub with_modules : Entries
with_modules = record {
  configs = record (bool_entry (codes "A") []) { kind = kind.Tristate } ∷ record (bool_entry (codes "MODULES") []) { modules = true } ∷ [];
  choices = [];
}

-- its tree
abbrev pub modular_tree : Shape
modular_tree = gathered with_modules

-- the int HZ without a prompt, and with a default
abbrev pub with_number : Entries
with_number = record {
  configs = record (bool_entry (codes "HZ") []) { kind = kind.Int; prompts = []; defaults = record { value = Const N; cond = Const Y; text = Some (codes "250") } ∷ [] } ∷ [];
  choices = [];
}

-- its tree
abbrev pub number_tree : Shape
number_tree = gathered with_number

-- ---- a model text

-- `CONFIG_A "CONFIG_B"` and `CONFIG_B`
abbrev pub two_rules : Rules
two_rules = record { names = codes "CONFIG_A" ∷ codes "CONFIG_B" ∷ []; holds = formula.AnyOf (formula.Neg (formula.Is (SymY 0)) ∷ formula.Is (SymY 1) ∷ []) ∷ [] }

-- ---- sources

-- `#ifdef` of a macro
abbrev pub ifdef : Bytes → What
ifdef macro = If (Defined macro)

-- `#ifndef` of a macro
abbrev pub ifndef : Bytes → What
ifndef macro = If (Neg (Defined macro))

-- directives on lines of their own, from this line on
abbrev pub lines_from : ℕ → List What → List Directive
lines_from line [] = []
lines_from line (w ∷ ws) = record { line = line; what = w } ∷ lines_from (suc line) ws

-- `#ifdef CONFIG_TYPO`, `#else`, `#endif`: no symbol TYPO is declared
abbrev pub undeclared : List Directive
undeclared = lines_from 1 (ifdef (codes "CONFIG_TYPO") ∷ Else ∷ Endif ∷ [])

-- a group in a group
abbrev pub nested : What → What → List Directive
nested outer inner = lines_from 1 (outer ∷ inner ∷ Endif ∷ Endif ∷ [])

-- `#ifdef CONFIG_A`, and in it `#ifndef CONFIG_A`
abbrev pub contrary : List Directive
contrary = nested (ifdef (codes "CONFIG_A")) (ifndef (codes "CONFIG_A"))

-- `#ifdef CONFIG_B`, and in it `#ifndef CONFIG_A`
abbrev pub dependent : List Directive
dependent = nested (ifdef (codes "CONFIG_B")) (ifndef (codes "CONFIG_A"))

-- `#ifdef CONFIG_A`, and in it the same once more
abbrev pub repeated : List Directive
repeated = nested (ifdef (codes "CONFIG_A")) (ifdef (codes "CONFIG_A"))

-- `#ifdef CONFIG_B`, and in it `#ifdef CONFIG_A`
abbrev pub implied : List Directive
implied = nested (ifdef (codes "CONFIG_B")) (ifdef (codes "CONFIG_A"))

-- `#ifdef CONFIG_A`, and in it `#ifndef CONFIG_B`
abbrev pub backwards : List Directive
backwards = nested (ifdef (codes "CONFIG_A")) (ifndef (codes "CONFIG_B"))

-- `#ifdef CONFIG_A`, and in it `#ifdef CONFIG_B`
abbrev pub together : List Directive
together = nested (ifdef (codes "CONFIG_A")) (ifdef (codes "CONFIG_B"))

-- `#ifdef CONFIG_A`, and in it `#ifdef CONFIG_A_MODULE`
abbrev pub both_ways : List Directive
both_ways = nested (ifdef (codes "CONFIG_A")) (ifdef (codes "CONFIG_A_MODULE"))

-- `#ifdef CONFIG_A_MODULE`, and in it `#ifndef CONFIG_MODULES`
abbrev pub module_alone : List Directive
module_alone = nested (ifdef (codes "CONFIG_A_MODULE")) (ifndef (codes "CONFIG_MODULES"))

-- `#define SEEN` with a body that is no number, `#ifdef SEEN`, `#else`, `#endif`
abbrev pub behind_define : List Directive
behind_define = lines_from 1 (Define (codes "SEEN") Free ∷ ifdef (codes "SEEN") ∷ Else ∷ Endif ∷ [])

-- `#ifdef CONFIG_A`, `#elif defined CONFIG_A`, `#endif`
abbrev pub same_twice : List Directive
same_twice = lines_from 1 (ifdef (codes "CONFIG_A") ∷ Elif (Defined (codes "CONFIG_A")) ∷ Endif ∷ [])

-- `#ifndef CONFIG_A`, `#endif`
abbrev pub without_a : List Directive
without_a = lines_from 1 (ifndef (codes "CONFIG_A") ∷ Endif ∷ [])

-- `#ifdef CONFIG_HZ`, and in it `#if CONFIG_HZ`
abbrev pub asks_twice : List Directive
asks_twice = nested (ifdef (codes "CONFIG_HZ")) (If (Plain (codes "CONFIG_HZ")))
