use Rattle.std.proofs.Common.{ap, sym, ◌∙◌, length, drop, ◌+◌}
use Rattle.kconf_tree.specs.Choosing.{typed_by_all}
use Rattle.kconf_tree.proofs.ChoiceLaws.{length-typed_by, next_left}
use Rattle.kconf_tree.proofs.choices.typed_kinds.Goals as goal

pub loop-config-preserved : goal.loop-config-preserved
loop-config-preserved c = let ts = c.args.types.now in let xs = c.args.configs.now in let i = c.loop-config.config-index in record {
  count = ap length c.type_by.ensures ∙ (length-typed_by ts c.loop-config.kinds.items c.config-item.result ∙ c.loop-config.invariant.count);
  left = ap (λ ks. typed_by_all ts ks (drop (i + 1) xs)) c.type_by.ensures ∙ (ap (typed_by_all ts c.loop-config.kinds.items) (sym (next_left xs i c.config-item.result c.loop-config-test.true c.config-item.is)) ∙ c.loop-config.invariant.left);
}
