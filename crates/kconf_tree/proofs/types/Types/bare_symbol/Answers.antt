use Rattle.std.proofs.Common.{sym, ap, ◌∙◌}
use Rattle.std.proofs.lemmas.Result.{IfOk-weaker}
use Rattle.kconf_tree.specs.Shape.{symbol_at}
use Rattle.kconf_tree.specs.Types.{typed, typed_symbol}
use Rattle.kconf_tree.proofs.Places.{read_mapped}
use Rattle.kconf_tree.specs.Shape.{no_symbol}
use Rattle.kconf_tree.proofs.types.Types.bare_symbol.Goals as goal

pub returns : goal.returns
returns c = IfOk-weaker c.bare_symbol.result _ _ (λ s h. h ∙ (sym (read_mapped typed_symbol c.self.inside.map.entries c.args.number (c.in-Some.name.now, c.in-Some.declared.now) no_symbol (sym c.in-Some.ensures.entry)) ∙ ap (λ ds. symbol_at (typed ds) c.args.number) c.self.view_is)) c.bare_symbol.ensures
