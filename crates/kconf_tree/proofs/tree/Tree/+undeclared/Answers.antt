use Rattle.std.proofs.Common.{sym, ap, ◌∙◌, ◌++◌}
use Rattle.std.specs.List.{flat_map}
use Rattle.std.proofs.lemmas.Result.{on_ok_weaker}
use Rattle.kconf_tree.specs.Undeclared.{undeclared_in}
use Rattle.kconf_tree.proofs.ExprLaws.{undeclared_and, undeclared_or}
use Rattle.kconf_tree.proofs.tree.Tree.+undeclared.Goals as goal

pub push_names-returns-in-And : goal.push_names-returns-in-And
push_names-returns-in-And t c = let s = c.args.self.now.shape in
    on_ok_weaker c.push_each.result (λ h. h ∙ ap (λ xs. c.args.names.now.items ++ xs) (ap (flat_map (undeclared_in s)) c.as_slice.ensures ∙ (undeclared_and s c.in-And.list ∙ ap (undeclared_in s) (sym c.in-And.is)))) c.push_each.ensures

pub push_names-returns-in-Or : goal.push_names-returns-in-Or
push_names-returns-in-Or t c = let s = c.args.self.now.shape in
    on_ok_weaker c.push_each-in-Or.result (λ h. h ∙ ap (λ xs. c.args.names.now.items ++ xs) (ap (flat_map (undeclared_in s)) c.as_slice-in-Or.ensures ∙ (undeclared_or s c.in-Or.list ∙ ap (undeclared_in s) (sym c.in-Or.is)))) c.push_each-in-Or.ensures
