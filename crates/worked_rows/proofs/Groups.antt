-- The group of lines that shows a case.
use Rattle.std.proofs.Common.{◌≡◌, ℕ, false, refl, ap, ◌∙◌, List, [], ◌∷◌, ◌++◌, codes}
use Rattle.std.specs.Fmt.{digits}
use Rattle.std.specs.List.{flat_map}
use Rattle.ut_logic.specs.declared.trit.Trit.TheVariants.{Y}
use Rattle.kconf_entries.specs.declared.expr.Expr.{Expr}
use Rattle.kconf_entries.specs.declared.expr.Expr.TheOpen.{Expr-F}
use Rattle.kconf_entries.specs.declared.expr.Expr.TheVariants.{Const}
use Rattle.kconf_entries.specs.declared.expr.Expr.TheFolds.{fold_out-Expr, map-Expr}
use Rattle.kconf_tree.specs.Gathered.{once, outers_in, outers_step, without_outers}
use Rattle.kconf_tree.specs.Shape.{Shape}
use Rattle.ut_case.specs.Numbering.{outers_of}
use Rattle.ut_report.specs.Groups.{Kind, each_from, group_lines, kind_lines, outer_line}
use Rattle.worked_rows.specs.Problems.{over, picking, second_picked}
use Rattle.worked_rows.specs.Texts.{choice_of_two, choosing_tree}
use Rattle.worked_rows.proofs.Layers.{out_y}

-- the constant y has no outer condition
outers_y : (t : Shape) → outers_in t (Const Y) ≡ []
outers_y t = fold_out-Expr (List (List ℕ)) (outers_step t) (Const Y)
    ∙ ap (λ (x : Expr-F Expr). outers_step t (map-Expr Expr (List (List ℕ)) (outers_in t) x)) out_y

-- those of an entry whose dependency and whose prompt have these
abbrev of_entry : List (List ℕ) → List (List ℕ)
of_entry u = u ++ (u ++ []) ++ [] ++ [] ++ []

-- those of two entries and of a choice whose prompt has these
abbrev of_all : List (List ℕ) → List (List ℕ)
of_all u = once ((of_entry u ++ (of_entry u ++ [])) ++ (((u ++ []) ++ []) ++ []))

-- so the problem has none
none_outer : outers_of (over choosing_tree []) ≡ []
none_outer = ap of_all (outers_y (without_outers choice_of_two))

-- the kinds that may have lines, where these are the outer conditions
abbrev kinds_with : List (List ℕ) → List Kind
kinds_with outers = record { tag = codes "choice"; lines = codes "1 y" ∷ [] }
    ∷ record { tag = codes "outer"; lines = each_from (outer_line (picking 1)) 0 outers } ∷ []

-- the group there
abbrev group_with : List (List ℕ) → List (List ℕ)
group_with outers = codes " off: CONFIG_B=y" ∷ flat_map (kind_lines false) (kinds_with outers)

-- the group of the second member has the line of the choice alone
group_is : group_lines (over choosing_tree []) false second_picked ≡ group_with (outers_of (over choosing_tree []))
unfolding digits
group_is = refl

-- the group of the second member
pub choice_group : group_lines (over choosing_tree []) false second_picked ≡ codes " off: CONFIG_B=y" ∷ codes " off-choice: 1 y" ∷ []
choice_group = group_is ∙ ap group_with none_outer
