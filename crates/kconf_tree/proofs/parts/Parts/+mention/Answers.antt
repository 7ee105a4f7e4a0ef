use Rattle.std.proofs.Common.{sym, ap, ◌∙◌, ◌++◌}
use Rattle.std.specs.List.{flat_map}
use Rattle.std.proofs.lemmas.Result.{on_ok_weaker}
use Rattle.kconf_tree.specs.References.{numbers_in}
use Rattle.kconf_tree.proofs.ExprLaws.{numbers_and, numbers_or}
use Rattle.kconf_tree.proofs.parts.Parts.+mention.Goals as goal

pub mention-returns-in-And-clause-row : goal.mention-returns-in-And-clause-row
mention-returns-in-And-clause-row t c = let s = c.args.self.now in let p = c.args.place in
    on_ok_weaker c.mention_each.result (λ h. h ∙ ap (λ xs. c.args.row.now ++ xs) (ap (flat_map (numbers_in s p)) c.as_slice.ensures ∙ (numbers_and s p c.in-And.list ∙ ap (numbers_in s p) (sym c.in-And.is)))) c.mention_each.ensures.row

pub mention-returns-in-Or-clause-row : goal.mention-returns-in-Or-clause-row
mention-returns-in-Or-clause-row t c = let s = c.args.self.now in let p = c.args.place in
    on_ok_weaker c.mention_each-in-Or.result (λ h. h ∙ ap (λ xs. c.args.row.now ++ xs) (ap (flat_map (numbers_in s p)) c.as_slice-in-Or.ensures ∙ (numbers_or s p c.in-Or.list ∙ ap (numbers_in s p) (sym c.in-Or.is)))) c.mention_each-in-Or.ensures.row
