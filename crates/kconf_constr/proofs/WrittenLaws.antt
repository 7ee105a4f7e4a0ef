-- The formula that a symbol is written is true exactly where it is, and mentions what its prompts and defaults ask for.
use Rattle.std.proofs.Common.{◌≡◌, ℕ, ◌==◌, Bool, true, false, not, ◌&&◌, ◌||◌, List, [], ◌∷◌, ◌++◌, map, refl, ap, sym, subst, ◌∙◌}
use Rattle.std.specs.List.{list_any, flat_map, Contains, AllByRecursion}
use Rattle.std.proofs.lemmas.List.Elements.{All-contains_itself, recursion_from_All}
use Rattle.ut_logic.specs.declared.item.Item.{Item}
use Rattle.ut_logic.specs.declared.item.Item.TheVariants as item
use Rattle.ut_logic.specs.declared.formula.Formula.{Formula}
use Rattle.ut_logic.specs.Truth.{truth, truths, any_true}
use Rattle.ut_logic.proofs.FoldLaws.{truth-any_of}
use Rattle.kconf_entries.specs.declared.expr.Expr.{Expr}
use Rattle.kconf_entries.specs.declared.entries.DefaultOf.{DefaultOf}
use Rattle.kconf_tree.specs.declared.place.Place.TheVariants.{Condition, Value}
use Rattle.kconf_tree.specs.Shape.{symbol_at}
use Rattle.kconf_tree.specs.Value.{Configuration, value_of, greatest, is_text_or_number}
use Rattle.kconf_tree.specs.Properties.{visibility_of, is_written}
use Rattle.kconf_tree.specs.References.{numbers_in, in_conditions, of_default, own_references}
use Rattle.kconf_constr.specs.declared.level.Level.TheVariants.{NotN}
use Rattle.kconf_constr.specs.Scope.{Scope}
use Rattle.kconf_constr.specs.Levels.{levels, at_level}
use Rattle.kconf_constr.specs.Stands.{read_off}
use Rattle.kconf_constr.specs.PropertyFormulas.{condition_at, default_counts, written_formula}
use Rattle.kconf_constr.specs.Meaning.{SaysWritten}
use Rattle.kconf_constr.specs.Closed.{Fits, IsOwn, MentionsOwn}
use Rattle.kconf_constr.proofs.ValueLaws.{expr_right}
use Rattle.kconf_constr.proofs.PropertyLaws.{greatest_stands}
use Rattle.kconf_constr.proofs.Lists.{front, back}
use Rattle.kconf_constr.proofs.FineLaws.{IsFineItem, Fine, AllFine, fine_nil, fine_cons, fine_append, fine_any}
use Rattle.kconf_constr.proofs.HeldFine.{condition_fine, prompts_part, defaults_part}

any_append : (v : Item → Bool) (fs gs : List Formula) → any_true (truths v (fs ++ gs)) ≡ (any_true (truths v fs) || any_true (truths v gs))
any_append v [] gs = refl
any_append v (f ∷ fs) gs = ap (λ b. truth v f || b) (any_append v fs gs) ∙ group (truth v f) (any_true (truths v fs)) (any_true (truths v gs))
  where
    group : (a b c : Bool) → (a || (b || c)) ≡ ((a || b) || c)
    group true b c = refl
    group false b c = refl

pub fused : (s : Scope) (es : List Expr) → map (condition_at s NotN) es ≡ map (at_level NotN) (map (levels s Condition) es)
fused s [] = refl
fused s (e ∷ es) = ap (λ fs. condition_at s NotN e ∷ fs) (fused s es)

module _ (s : Scope) (v : Item → Bool) where
  abbrev c : Configuration
  c = read_off s v

  prompts_say : (es : List Expr) → any_true (truths v (map (condition_at s NotN) es)) ≡ not (greatest (map (value_of s.shape c) es) == 0)
  prompts_say es = ap (λ fs. any_true (truths v fs)) (fused s es) ∙ (sym (truth-any_of v (map (at_level NotN) (map (levels s Condition) es))) ∙ (greatest_stands s v es).not_n)

  defaults_say : (ds : List DefaultOf) → any_true (truths v (map (default_counts s) ds)) ≡ list_any (λ (d : DefaultOf). not (value_of s.shape c d.cond == 0)) ds
  defaults_say [] = refl
  defaults_say (d ∷ ds) = let one = (expr_right s v Condition d.cond).not_n in let more = defaults_say ds in λ i. one i || more i

  written_says : (k : ℕ) → is_text_or_number (symbol_at s.shape k).kind ≡ true → truth v (written_formula s k) ≡ is_written s.shape c k
  written_says k text = truth-any_of v (map (condition_at s NotN) (symbol_at s.shape k).prompts ++ map (default_counts s) (symbol_at s.shape k).defaults)
      ∙ (any_append v (map (condition_at s NotN) (symbol_at s.shape k).prompts) (map (default_counts s) (symbol_at s.shape k).defaults)
      ∙ ((let one = prompts_say (symbol_at s.shape k).prompts in let more = defaults_say (symbol_at s.shape k).defaults in λ i. one i || more i)
      ∙ ap (λ b. b && (not (visibility_of s.shape c k == 0) || list_any (λ (d : DefaultOf). not (value_of s.shape c d.cond == 0)) (symbol_at s.shape k).defaults)) (sym text)))

-- ---- what it mentions

module _ (s : Scope) (k : ℕ) where
  abbrev IsNamed : ℕ → Type 0
  IsNamed j = Contains (own_references s.shape k) j

  abbrev IsNone : ℕ → Type 0
  IsNone i = ⊥

  all_named : AllByRecursion IsNamed (own_references s.shape k)
  all_named = recursion_from_All IsNamed (own_references s.shape k) (All-contains_itself (own_references s.shape k))

  prompts_fine : (es : List Expr) → AllByRecursion IsNamed (in_conditions s.shape es) → AllFine s IsNamed IsNone (map (condition_at s NotN) es)
  prompts_fine [] a = fine_nil s IsNamed IsNone
  prompts_fine (e ∷ es) a = fine_cons s IsNamed IsNone (condition_at s NotN e) (map (condition_at s NotN) es) (condition_fine IsNamed IsNone s NotN e (front IsNamed (numbers_in s.shape Condition e) (in_conditions s.shape es) a))
      (prompts_fine es (back IsNamed (numbers_in s.shape Condition e) (in_conditions s.shape es) a))

  counts_fine : (ds : List DefaultOf) → AllByRecursion IsNamed (flat_map (of_default s.shape) ds) → AllFine s IsNamed IsNone (map (default_counts s) ds)
  counts_fine [] a = fine_nil s IsNamed IsNone
  counts_fine (d ∷ ds) a = let here = front IsNamed (of_default s.shape d) (flat_map (of_default s.shape) ds) a in
      fine_cons s IsNamed IsNone (default_counts s d) (map (default_counts s) ds) (condition_fine IsNamed IsNone s NotN d.cond (front IsNamed (numbers_in s.shape Condition d.cond) (numbers_in s.shape Value d.value) here))
      (counts_fine ds (back IsNamed (of_default s.shape d) (flat_map (of_default s.shape) ds) a))

  written_fine : Fine s IsNamed IsNone (written_formula s k)
  written_fine = fine_any s IsNamed IsNone (map (condition_at s NotN) (symbol_at s.shape k).prompts ++ map (default_counts s) (symbol_at s.shape k).defaults)
      (fine_append s IsNamed IsNone (map (condition_at s NotN) (symbol_at s.shape k).prompts) (map (default_counts s) (symbol_at s.shape k).defaults)
      (prompts_fine (symbol_at s.shape k).prompts (prompts_part IsNamed IsNone s k all_named)) (counts_fine (symbol_at s.shape k).defaults (defaults_part IsNamed IsNone s k all_named)))

  owned : (i : Item) → IsFineItem s IsNamed IsNone i → Fits s i × IsOwn s k i
  owned (item.SymY j) f = f
  owned (item.SymM j) f = f
  owned (item.Undeclared n) f = (f, tt)
  owned (item.Outer n) f = (f, tt)
  owned (item.ModeY i) f = absurd f
  owned (item.ModeM i) f = absurd f.1
  owned (item.Same sym n) f = absurd f
  owned (item.Below sym n) f = absurd f
  owned (item.StartD file name) f = absurd f
  owned (item.StartT file name) f = absurd f
  owned (item.Truth file name) f = absurd f
  owned (item.Piece file piece) f = absurd f
  owned (item.Line file line) f = absurd f
  owned (item.Block file block) f = absurd f
  owned (item.StateD file name turn) f = absurd f
  owned (item.StateT file name turn) f = absurd f

  written_mentions : MentionsOwn s k (written_formula s k)
  written_mentions i there = owned i (written_fine i there)

-- ---- of formulas that are that of a symbol

pub writes_of : (s t : Scope) (k : ℕ) (f : Formula) → f ≡ written_formula s k → s ≡ t → SaysWritten t k f
writes_of s t k f is g = subst (SaysWritten t k) (sym (is ∙ ap (λ (r : Scope). written_formula r k) g)) (λ text v. written_says t v k text)

pub owns_of : (s t : Scope) (k : ℕ) (f : Formula) → f ≡ written_formula s k → s ≡ t → MentionsOwn t k f
owns_of s t k f is g = subst (MentionsOwn t k) (sym (is ∙ ap (λ (r : Scope). written_formula r k) g)) (written_mentions t k)
