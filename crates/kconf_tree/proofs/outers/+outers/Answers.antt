use Rattle.std.proofs.Common.{sym, ap, ◌∙◌, ◌++◌}
use Rattle.std.specs.List.{flat_map}
use Rattle.std.proofs.lemmas.Result.{on_ok_weaker}
use Rattle.kconf_tree.specs.Gathered.{outers_in}
use Rattle.kconf_tree.specs.Types.{typed}
use Rattle.kconf_tree.proofs.ExprLaws.{outers_and, outers_or}
use Rattle.kconf_tree.proofs.outers.+outers.Goals as goal

pub push_outers-returns-in-And : goal.push_outers-returns-in-And
push_outers-returns-in-And t c = let s = typed c.args.types.now in
    on_ok_weaker c.push_each.result (λ h. h ∙ ap (λ xs. c.args.texts.now.items ++ xs) (ap (flat_map (outers_in s)) c.as_slice.ensures ∙ (outers_and s c.in-And.list ∙ ap (outers_in s) (sym c.in-And.is)))) c.push_each.ensures

pub push_outers-returns-in-Or : goal.push_outers-returns-in-Or
push_outers-returns-in-Or t c = let s = typed c.args.types.now in
    on_ok_weaker c.push_each-in-Or.result (λ h. h ∙ ap (λ xs. c.args.texts.now.items ++ xs) (ap (flat_map (outers_in s)) c.as_slice-in-Or.ensures ∙ (outers_or s c.in-Or.list ∙ ap (outers_in s) (sym c.in-Or.is)))) c.push_each-in-Or.ensures
