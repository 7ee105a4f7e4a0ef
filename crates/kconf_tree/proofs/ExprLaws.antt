-- What a list of expressions comes to.
use Rattle.std.proofs.Common.{◌≡◌, ℕ, List, [], ◌∷◌, ◌++◌, map, refl, ap, sym, ◌∙◌, rules}
use Rattle.std.specs.List.{flat_map}
use Rattle.kconf_entries.specs.declared.expr.Expr.{Expr, out-Expr}
use Rattle.kconf_entries.specs.declared.expr.Expr.TheOpen.{Expr-F}
use Rattle.kconf_entries.specs.declared.expr.Expr.TheVariants.{And, Or}
use Rattle.kconf_entries.specs.declared.expr.Expr.TheFolds.{fold_out-Expr, map-Expr}
use Rattle.kconf_entries.specs.declared.expr.Expr.TheViews.{the_lemmas}
use Rattle.kconf_tree.specs.Shape.{Shape}
use Rattle.kconf_tree.specs.Gathered.{outers_step, outers_in}
use Rattle.kconf_tree.specs.Value.{Place}
use Rattle.kconf_tree.specs.References.{numbers_step, numbers_in}
use Rattle.kconf_tree.specs.Undeclared.{undeclared_step, undeclared_in}

pub joined_map : {A B : Type 0} (f : A → List B) (xs : List A) → flat_map (λ y. y) (map f xs) ≡ flat_map f xs
joined_map f [] = refl
joined_map f (x ∷ xs) = ap (λ ys. f x ++ ys) (joined_map f xs)

pub out_and : (es : List Expr) → out-Expr (And es) ≡ Expr-F.And es
out_and es = search (rules, the_lemmas)

pub out_or : (es : List Expr) → out-Expr (Or es) ≡ Expr-F.Or es
out_or es = search (rules, the_lemmas)

outers_out : (t : Shape) (e : Expr) → outers_in t e ≡ outers_step t (map-Expr Expr (List (List ℕ)) (outers_in t) (out-Expr e))
outers_out t e = fold_out-Expr (List (List ℕ)) (outers_step t) e

pub outers_and : (t : Shape) (es : List Expr) → flat_map (outers_in t) es ≡ outers_in t (And es)
outers_and t es = sym (outers_out t (And es) ∙ (ap (λ (x : Expr-F Expr). outers_step t (map-Expr Expr (List (List ℕ)) (outers_in t) x)) (out_and es) ∙ joined_map (outers_in t) es))

pub outers_or : (t : Shape) (es : List Expr) → flat_map (outers_in t) es ≡ outers_in t (Or es)
outers_or t es = sym (outers_out t (Or es) ∙ (ap (λ (x : Expr-F Expr). outers_step t (map-Expr Expr (List (List ℕ)) (outers_in t) x)) (out_or es) ∙ joined_map (outers_in t) es))

undeclared_out : (t : Shape) (e : Expr) → undeclared_in t e ≡ undeclared_step t (map-Expr Expr (List (List ℕ)) (undeclared_in t) (out-Expr e))
undeclared_out t e = fold_out-Expr (List (List ℕ)) (undeclared_step t) e

pub undeclared_and : (t : Shape) (es : List Expr) → flat_map (undeclared_in t) es ≡ undeclared_in t (And es)
undeclared_and t es = sym (undeclared_out t (And es) ∙ (ap (λ (x : Expr-F Expr). undeclared_step t (map-Expr Expr (List (List ℕ)) (undeclared_in t) x)) (out_and es) ∙ joined_map (undeclared_in t) es))

pub undeclared_or : (t : Shape) (es : List Expr) → flat_map (undeclared_in t) es ≡ undeclared_in t (Or es)
undeclared_or t es = sym (undeclared_out t (Or es) ∙ (ap (λ (x : Expr-F Expr). undeclared_step t (map-Expr Expr (List (List ℕ)) (undeclared_in t) x)) (out_or es) ∙ joined_map (undeclared_in t) es))

numbers_out : (t : Shape) (p : Place) (e : Expr) → numbers_in t p e ≡ numbers_step t p (map-Expr Expr (List ℕ) (numbers_in t p) (out-Expr e))
numbers_out t p e = fold_out-Expr (List ℕ) (numbers_step t p) e

pub numbers_and : (t : Shape) (p : Place) (es : List Expr) → flat_map (numbers_in t p) es ≡ numbers_in t p (And es)
numbers_and t p es = sym (numbers_out t p (And es) ∙ (ap (λ (x : Expr-F Expr). numbers_step t p (map-Expr Expr (List ℕ) (numbers_in t p) x)) (out_and es) ∙ joined_map (numbers_in t p) es))

pub numbers_or : (t : Shape) (p : Place) (es : List Expr) → flat_map (numbers_in t p) es ≡ numbers_in t p (Or es)
numbers_or t p es = sym (numbers_out t p (Or es) ∙ (ap (λ (x : Expr-F Expr). numbers_step t p (map-Expr Expr (List ℕ) (numbers_in t p) x)) (out_or es) ∙ joined_map (numbers_in t p) es))
