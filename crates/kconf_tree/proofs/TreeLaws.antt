-- What is gathered is the tree of the entries.
use Rattle.std.proofs.Common.{◌≡◌, ℕ, zero, suc, ◌+◌, ◌<◌, false, not, ◌&&◌, cond, Option, None, Some, List, [], ◌∷◌, ◌++◌, length, map, get_or, drop, refl, ap, sym, ◌∙◌, arith}
use Rattle.std.proofs.lemmas.Iterator.Adapters.{position_from-zero}
use Rattle.std.proofs.lemmas.List.{length-map, drop_more}
use Rattle.std.specs.List.{flat_map, position_from}
use Rattle.kconf_entries.specs.declared.expr.Side.{Side}
use Rattle.kconf_entries.specs.declared.expr.Side.TheVariants as side
use Rattle.kconf_entries.specs.declared.expr.Sign.{Sign}
use Rattle.kconf_entries.specs.declared.expr.Expr.{Expr}
use Rattle.kconf_entries.specs.declared.expr.Expr.TheOpen.{Expr-F}
use Rattle.kconf_entries.specs.declared.expr.Expr.TheFolds.{fold-Expr}
use Rattle.kconf_entries.specs.declared.entries.Kind.TheVariants as kind
use Rattle.kconf_entries.specs.declared.entries.DefaultOf.{DefaultOf}
use Rattle.kconf_entries.specs.declared.entries.SelectOf.{SelectOf}
use Rattle.kconf_entries.specs.declared.entries.ConfigEntry.{ConfigEntry}
use Rattle.kconf_entries.specs.declared.entries.ChoiceEntry.{ChoiceEntry}
use Rattle.kconf_entries.specs.declared.entries.Entries.{Entries}
use Rattle.kconf_tree.specs.declared.shape.Symbol.{Symbol}
use Rattle.kconf_tree.specs.declared.types.Declared.{Declared}
use Rattle.kconf_tree.specs.Shape.{Shape, no_symbol, number_of}
use Rattle.kconf_tree.specs.Value.{has_trit, has_trit_named, is_text_or_number, compares_trits, is_equation, OfTrits, OfText}
use Rattle.kconf_entries.specs.Written.{comparison_text}
use Rattle.kconf_tree.specs.Gathered.{once, entries_named, symbol_of, symbols_of, is_bool_or_tristate, has_modules_line, modules_of, outers_step, compared_outers, outers_in, without_outers, gathered}
use Rattle.kconf_tree.specs.Types.{declared_by, names_of, types_of, typed, typed_symbol, declared_at, outers_with}
use Rattle.kconf_tree.specs.Modules.{modules_from}
use Rattle.kconf_tree.specs.Apart.{names_in}
use Rattle.kconf_tree.proofs.ChoiceLaws.{next_left}
use Rattle.kconf_tree.proofs.NameLaws.{numbers_by_names}

-- ---- the modules symbol

-- one symbol that isn't the one
pub next_passed : (ts : List (List ℕ × Declared)) (ss : List Symbol) (n : ℕ) (s : Symbol) → n < length ss → length ss ≡ length ts → s ≡ get_or ss n s → (is_bool_or_tristate s && (declared_at ts n).modules) ≡ false
    → modules_from (n + 1) (drop (n + 1) ts) (drop (n + 1) ss) ≡ modules_from n (drop n ts) (drop n ss)
next_passed ts ss n s l c e h = sym ((λ i. modules_from n (t i) (u i)) ∙ ap (λ b. cond b (Some n) (modules_from (n + 1) (drop (n + 1) ts) (drop (n + 1) ss))) h)
  where
    t : drop n ts ≡ get_or ts n ([], record { kind = kind.Untyped; modules = false }) ∷ drop (n + 1) ts
    t = drop_more ts n _ (omega arith)

    u : drop n ss ≡ s ∷ drop (n + 1) ss
    u = next_left ss n s l e

module _ (es : List ConfigEntry) where
  abbrev declared_named : List ℕ → List ℕ × Declared
  declared_named n = (n, declared_by (entries_named es n))

  abbrev symbol_named : List ℕ → Symbol
  symbol_named n = symbol_of (entries_named es n) n

  modules_each : (n : ℕ) (ns : List (List ℕ)) → modules_from n (map declared_named ns) (map symbol_named ns) ≡ position_from (λ s. is_bool_or_tristate s && has_modules_line es s) n (map symbol_named ns)
  modules_each n [] = refl
  modules_each n (x ∷ xs) = ap (λ o. cond (is_bool_or_tristate (symbol_named x) && has_modules_line es (symbol_named x)) (Some n) o) (modules_each (n + 1) xs)

  pub modules_are : modules_from 0 (types_of es) (symbols_of es) ≡ modules_of es
  modules_are = modules_each 0 (names_of es) ∙ sym (position_from-zero (λ s. is_bool_or_tristate s && has_modules_line es s) (symbols_of es))

  -- ---- names and types

  pub names_are : names_in (typed (types_of es)).symbols ≡ names_in (symbols_of es)
  names_are = each (names_of es)
    where
      each : (ns : List (List ℕ)) → names_in (map typed_symbol (map declared_named ns)) ≡ names_in (map symbol_named ns)
      each [] = refl
      each (n ∷ ns) = ap (λ xs. n ∷ xs) (each ns)

  -- the names of the symbols are the names
  pub names_once : names_in (symbols_of es) ≡ names_of es
  names_once = each (names_of es)
    where
      each : (ns : List (List ℕ)) → names_in (map symbol_named ns) ≡ ns
      each [] = refl
      each (n ∷ ns) = ap (λ xs. n ∷ xs) (each ns)

  kinds_are : (k : ℕ) → (get_or (typed (types_of es)).symbols k no_symbol).kind ≡ (get_or (symbols_of es) k no_symbol).kind
  kinds_are k = each (names_of es) k
    where
      each : (ns : List (List ℕ)) (j : ℕ) → (get_or (map typed_symbol (map declared_named ns)) j no_symbol).kind ≡ (get_or (map symbol_named ns) j no_symbol).kind
      each [] j = refl
      each (n ∷ ns) zero = refl
      each (n ∷ ns) (suc j) = each ns j

  pub length-symbols : length (symbols_of es) ≡ length (types_of es)
  length-symbols = length-map (names_of es) symbol_named ∙ sym (length-map (names_of es) declared_named)

-- ---- outer conditions

module _ (e : Entries) where
  abbrev t : Shape
  t = typed (types_of e.configs)

  abbrev w : Shape
  w = without_outers e

  trit_named : (o : Option ℕ) → has_trit_named t o ≡ has_trit_named w o
  trit_named None = refl
  trit_named (Some k) = ap (λ x. not (is_text_or_number x)) (kinds_are e.configs k)

  trit_side : (s : Side) → has_trit t s ≡ has_trit w s
  trit_side (side.Const x) = refl
  trit_side (side.Name name) = ap (has_trit_named t) (numbers_by_names t w name (names_are e.configs)) ∙ trit_named (number_of w name)
  trit_side (side.Literal x) = refl
  trit_side (side.Quoted x) = refl

  compares_same : (l : Side) (s : Sign) (r : Side) → compares_trits t l s r ≡ compares_trits w l s r
  compares_same l s r = ap (λ b. is_equation s && (b && has_trit t r)) (trit_side l) ∙ ap (λ b. is_equation s && (has_trit w l && b)) (trit_side r)

  step_same : (x : Expr-F (List (List ℕ))) → outers_step t x ≡ outers_step w x
  step_same (Expr-F.Const c) = refl
  step_same (Expr-F.Name n) = refl
  step_same (Expr-F.Outer text) = refl
  step_same (Expr-F.Compare l s r) = ap (λ b. compared_outers (cond b OfTrits (OfText (comparison_text l s r)))) (compares_same l s r)
  step_same (Expr-F.Neg texts) = refl
  step_same (Expr-F.And lists) = refl
  step_same (Expr-F.Or lists) = refl

  outers_same : outers_in t ≡ outers_in w
  outers_same = ap (fold-Expr (List (List ℕ))) (λ i x. step_same x i)

  -- what an entry has, by what an expression has
  abbrev config_by : (Expr → List (List ℕ)) → ConfigEntry → List (List ℕ)
  config_by f c = f c.depends ++ flat_map f c.prompts
      ++ flat_map (λ (d : DefaultOf). f d.value ++ f d.cond) c.defaults
      ++ flat_map (λ (s : SelectOf). f s.cond) c.selects ++ flat_map (λ (s : SelectOf). f s.cond) c.implies

  abbrev choice_by : (Expr → List (List ℕ)) → ChoiceEntry → List (List ℕ)
  choice_by f c = flat_map f c.prompts ++ flat_map (λ (s : SelectOf). f s.cond) c.defaults

  pub outers_are : outers_with t e.configs e.choices ≡ (gathered e).outers
  outers_are = ap (λ (f : Expr → List (List ℕ)). once (flat_map (config_by f) e.configs ++ flat_map (choice_by f) e.choices)) outers_same
