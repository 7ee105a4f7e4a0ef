-- The value of an expression depends alone on the symbols and undeclared names that it asks for, and on the tree's outer
-- conditions.
use Rattle.std.proofs.Common.{◌≡◌, ℕ, ◌-◌, ◌==◌, ◌<◌, Bool, true, false, not, cond, length, List, [], ◌∷◌, ◌++◌, map, refl, ap, subst, ◌∙◌, Option, None, Some}
use Rattle.std.specs.Prelude.{is_some}
use Rattle.std.specs.List.{flat_map, AllByRecursion}
use Rattle.std.proofs.lemmas.List.Quantifiers.{position-Some}
use Rattle.ut_text.specs.Text.{text_eq}
use Rattle.std.specs.Option.{option_to_list}
use Rattle.ut_logic.specs.declared.trit.Trit.{Trit}
use Rattle.ut_logic.specs.declared.trit.Trit.TheVariants.{N, M, Y}
use Rattle.kconf_entries.specs.declared.expr.Side.{Side}
use Rattle.kconf_entries.specs.declared.expr.Side.TheVariants as side
use Rattle.kconf_entries.specs.declared.expr.Sign.{Sign}
use Rattle.kconf_entries.specs.declared.expr.Expr.{Expr}
use Rattle.kconf_entries.specs.declared.expr.Expr.TheOpen.{Expr-F}
use Rattle.kconf_entries.specs.declared.expr.Expr.TheViews.{roll-Expr}
use Rattle.kconf_entries.specs.declared.expr.Expr.TheFolds.{fold-roll-Expr, map-Expr, ind-Expr}
use Rattle.kconf_tree.specs.Shape.{Shape, number_of, outer_at, counts_as}
use Rattle.kconf_tree.specs.declared.place.Place.{Place}
use Rattle.kconf_tree.specs.declared.place.Place.TheVariants.{Condition, Value}
use Rattle.kconf_tree.specs.Value.{Configuration, value_in, value_step, named, side_value, const_value, compared, Comparison, OfTrits, OfText, comparison_of, comparison_value, outer_value, least, greatest, has_modules, stands_for}
use Rattle.kconf_tree.specs.Undeclared.{unless_declared, side_undeclared, compared_undeclared, undeclared_step, undeclared_in}
use Rattle.kconf_tree.specs.References.{numbers_in, numbers_step, side_numbers, compared_numbers, const_numbers}

-- the configurations have the same value at each number of the list
abbrev pub Agree : Configuration → Configuration → List ℕ → Type 0
Agree c d [] = Unit {0}
Agree c d (k ∷ ks) = (c.value k ≡ d.value k) × Agree c d ks

-- the same outer conditions hold, and undeclared names are read alike
pub record Alike (c d : Configuration) : Type 0 where
  pub outer : (k : ℕ) → c.outer k ≡ d.outer k
  pub undeclared : (name : List ℕ) → c.undeclared name ≡ d.undeclared name

pub alike_same : (c : Configuration) → Alike c c
alike_same c = record { outer = λ k. refl; undeclared = λ name. refl }

pub alike_then : (b c d : Configuration) → Alike b c → Alike c d → Alike b d
alike_then b c d h g = record { outer = λ k. h.outer k ∙ g.outer k; undeclared = λ name. h.undeclared name ∙ g.undeclared name }

pub agree_left : (c d : Configuration) (js ks : List ℕ) → Agree c d (js ++ ks) → Agree c d js
agree_left c d [] ks h = tt
agree_left c d (j ∷ js) ks h = (h.0, agree_left c d js ks h.1)

pub agree_right : (c d : Configuration) (js ks : List ℕ) → Agree c d (js ++ ks) → Agree c d ks
agree_right c d [] ks h = h
agree_right c d (j ∷ js) ks h = agree_right c d js ks h.1

-- the configurations read each name of the list alike
abbrev pub Names : Configuration → Configuration → List (List ℕ) → Type 0
Names c d = AllByRecursion (λ name. c.undeclared name ≡ d.undeclared name)

pub names_left : (c d : Configuration) (ms ns : List (List ℕ)) → Names c d (ms ++ ns) → Names c d ms
names_left c d [] ns h = tt
names_left c d (m ∷ ms) ns h = (h.0, names_left c d ms ns h.1)

pub names_right : (c d : Configuration) (ms ns : List (List ℕ)) → Names c d (ms ++ ns) → Names c d ns
names_right c d [] ns h = h
names_right c d (m ∷ ms) ns h = names_right c d ms ns h.1

pub on_same : (t : Shape) (c d : Configuration) → Agree c d (option_to_list t.modules) → has_modules t c ≡ has_modules t d
on_same t c d h = by t.modules refl h
  where
    by : (o : Option ℕ) → t.modules ≡ o → Agree c d (option_to_list o) → has_modules t c ≡ has_modules t d
    by None e g = rw e refl
    by (Some k) e g = rw e (ap (λ x. not (x == 0)) g.0)

module _ (t : Shape) (c d : Configuration) (outer : (k : ℕ) → k < length t.outers → c.outer k ≡ d.outer k) where
  named_same : (name : List ℕ) (o : Option ℕ) → Agree c d (option_to_list o) → Names c d (cond (is_some o) [] (name ∷ [])) → named t c name o ≡ named t d name o
  named_same name None h n = ap (λ b. cond b 2 0) n.0
  named_same name (Some k) h n = ap (stands_for (counts_as t k)) h.0

  side_same : (s : Side) → Agree c d (side_numbers t s) → Names c d (side_undeclared t s) → side_value t c s ≡ side_value t d s
  side_same (side.Const x) h n = refl
  side_same (side.Name name) h n = named_same name (number_of t name) h n
  side_same (side.Literal text) h n = refl
  side_same (side.Quoted text) h n = refl

  outer_same : (text : List ℕ) → outer_value t c text ≡ outer_value t d text
  outer_same text = by (outer_at t text) refl
    where
      by : (o : Option ℕ) → outer_at t text ≡ o → outer_value t c text ≡ outer_value t d text
      by None e = rw e refl
      by (Some k) e = rw e (ap (λ b. cond b 2 0) (outer k (position-Some (λ o. text_eq o text) t.outers k [] e).0))

  const_same : (p : Place) (x : Trit) → Agree c d (const_numbers t p x) → const_value t c p x ≡ const_value t d p x
  const_same Condition N h = refl
  const_same Value N h = refl
  const_same Condition Y h = refl
  const_same Value Y h = refl
  const_same Value M h = refl
  const_same Condition M h = ap (λ b. cond b 1 0) (on_same t c d h)

  compare_same : (l r : Side) (s : Sign) (o : Comparison) → Agree c d (compared_numbers t l r o) → Names c d (compared_undeclared t l r o) → comparison_value t c l s r o ≡ comparison_value t d l s r o
  compare_same l r s (OfText text) h n = outer_same text
  compare_same l r s OfTrits h n = let left = side_same l (agree_left c d (side_numbers t l) (side_numbers t r) h) (names_left c d (side_undeclared t l) (side_undeclared t r) n) in
      let right = side_same r (agree_right c d (side_numbers t l) (side_numbers t r) h) (names_right c d (side_undeclared t l) (side_undeclared t r) n) in
      λ i. compared s (left i) (right i)

  -- ---- lists, each with its proof

  module _ (p : Place) where
    abbrev IsSame : Expr → Type 0
    IsSame e = Agree c d (numbers_in t p e) → Names c d (undeclared_in t e) → value_in t c p e ≡ value_in t d p e

    abbrev Each : Type 0
    Each = (e : Expr) × IsSame e

    abbrev rest_numbers : List Each → List ℕ
    rest_numbers es = flat_map (λ ks. ks) (map (numbers_in t p) (map (λ e. e.0) es))

    abbrev rest_names : List Each → List (List ℕ)
    rest_names es = flat_map (λ ns. ns) (map (undeclared_in t) (map (λ e. e.0) es))

    values_same : (es : List Each) → Agree c d (rest_numbers es) → Names c d (rest_names es) → map (value_in t c p) (map (λ e. e.0) es) ≡ map (value_in t d p) (map (λ e. e.0) es)
    values_same [] h n = refl
    values_same (e ∷ es) h n = let one = e.1 (agree_left c d (numbers_in t p e.0) (rest_numbers es) h) (names_left c d (undeclared_in t e.0) (rest_names es) n) in
        let rest = values_same es (agree_right c d (numbers_in t p e.0) (rest_numbers es) h) (names_right c d (undeclared_in t e.0) (rest_names es) n) in λ i. one i ∷ rest i

    abbrev StepSame : Expr-F Expr → Type 0
    StepSame z = Agree c d (numbers_step t p (map-Expr Expr (List ℕ) (numbers_in t p) z)) → Names c d (undeclared_step t (map-Expr Expr (List (List ℕ)) (undeclared_in t) z))
        → value_step t c p (map-Expr Expr ℕ (value_in t c p) z) ≡ value_step t d p (map-Expr Expr ℕ (value_in t d p) z)

    step : (y : Expr-F Each) → StepSame (map-Expr Each Expr (λ e. e.0) y)
    step (Expr-F.Const x) h n = const_same p x h
    step (Expr-F.Name name) h n = named_same name (number_of t name) h n
    step (Expr-F.Outer text) h n = outer_same text
    step (Expr-F.Compare left s right) h n = compare_same left right s (comparison_of t left s right) h n
    step (Expr-F.Neg e) h n = ap (λ x. 2 - x) (e.1 h n)
    step (Expr-F.And es) h n = ap least (values_same es h n)
    step (Expr-F.Or es) h n = ap greatest (values_same es h n)

    rolled : (x : Expr-F Expr) → StepSame x → IsSame (roll-Expr x)
    rolled x h = rw (fold-roll-Expr ℕ (value_step t c p) x, fold-roll-Expr ℕ (value_step t d p) x, fold-roll-Expr (List ℕ) (numbers_step t p) x, fold-roll-Expr (List (List ℕ)) (undeclared_step t) x) h

    pub value_same : (e : Expr) → IsSame e
    value_same = ind-Expr IsSame (λ x y is. rolled x (subst StepSame is (step y)))
