-- The numbers of the undeclared names of the problem whose source asks for one.
use Rattle.std.proofs.Common.{◌≡◌, ◌↔◌, ℕ, ap, sym, subst, ◌∙◌, List, [], ◌∷◌, ◌++◌, Contains, codes}
use Rattle.std.specs.List.{flat_map}
use Rattle.std.specs.List.Sorted.{IsStrictlySortedBy}
use Rattle.ut_logic.specs.declared.trit.Trit.TheVariants.{Y}
use Rattle.kconf_entries.specs.declared.expr.Expr.{Expr, out-Expr}
use Rattle.kconf_entries.specs.declared.expr.Expr.TheOpen.{Expr-F}
use Rattle.kconf_entries.specs.declared.expr.Expr.TheVariants.{Const, Name}
use Rattle.kconf_entries.specs.declared.expr.Expr.TheFolds.{fold_out-Expr, map-Expr}
use Rattle.kconf_constr.specs.Scope.{IsRising}
use Rattle.kconf_tree.specs.Shape.{Shape}
use Rattle.kconf_tree.specs.Undeclared.{undeclared_of, undeclared_in, undeclared_step, unless_declared}
use Rattle.ut_case.specs.Names.{config_name}
use Rattle.ut_case.specs.Numbering.{macro_undeclared, source_undeclared, undeclared_names, IsNumbered}
use Rattle.worked_rows.specs.Problems.{plain_source}
use Rattle.worked_rows.specs.Texts.{two_tree, undeclared}
use Rattle.worked_rows.proofs.Layers.{out_name, out_y}
use Rattle.worked_rows.proofs.Undeclared.{two, problem, one_name}

module _ (t : Shape) where
  -- by the outermost layer
  undeclared_out : (e : Expr) → undeclared_in t e ≡ undeclared_step t (map-Expr Expr (List (List ℕ)) (undeclared_in t) (out-Expr e))
  undeclared_out e = fold_out-Expr (List (List ℕ)) (undeclared_step t) e

  -- of a name
  undeclared_name : (n : List ℕ) → undeclared_in t (Name n) ≡ unless_declared t n
  undeclared_name n = undeclared_out (Name n) ∙ ap (λ (x : Expr-F Expr). undeclared_step t (map-Expr Expr (List (List ℕ)) (undeclared_in t) x)) (out_name n)

  -- of the constant y
  undeclared_y : undeclared_in t (Const Y) ≡ []
  undeclared_y = undeclared_out (Const Y) ∙ ap (λ (x : Expr-F Expr). undeclared_step t (map-Expr Expr (List (List ℕ)) (undeclared_in t) x)) out_y

-- the names of a symbol whose dependency and whose prompt have these
abbrev of_symbol : List (List ℕ) → List (List ℕ)
of_symbol u = (u ++ []) ++ (u ++ []) ++ [] ++ [] ++ []

-- those of both symbols
abbrev of_both : List (List ℕ) → List (List ℕ) → List (List ℕ)
of_both u v = (of_symbol u ++ (of_symbol v ++ [])) ++ []

-- the Kconfig text names none
none_in_tree : undeclared_of two_tree ≡ []
none_in_tree = ap (λ u. of_both u (undeclared_in two_tree (Name (codes "A")))) (undeclared_y two_tree) ∙ ap (λ u. of_both [] u) (undeclared_name two_tree (codes "A"))

-- the source names one
one_undeclared : undeclared_names problem ≡ codes "TYPO" ∷ []
one_undeclared = ap (λ ns. ns ++ (source_undeclared two (plain_source (codes "a.c") undeclared) ++ [])) none_in_tree
    ∙ ap (λ ns. (flat_map (λ macro. macro_undeclared two macro (config_name macro)) ns ++ []) ++ []) one_name

-- one name rises
one_rises : IsRising (codes "TYPO" ∷ [])
unfolding IsStrictlySortedBy
one_rises = (tt, tt)

-- so the list of the problem is right
pub name_is_numbered : IsNumbered problem
name_is_numbered = record {
  rising = one_rises;
  exact = subst (λ names. (name : List ℕ) → Contains (codes "TYPO" ∷ []) name ↔ Contains names name) (sym one_undeclared) (λ name. ((λ h. h), (λ h. h)));
}
