use Rattle.std.proofs.Common.{Bor, List, ◌+◌, drop, sym, ap, ◌∙◌}
use Rattle.std.specs.List.{flat_map}
use Rattle.ut_logic.specs.declared.node.Node.{Node}
use Rattle.model_slice.specs.Found.{added}
use Rattle.model_slice.proofs.AddedLaws.{next_list}
use Rattle.model_slice.proofs.met.add_each.Goals as goal

pub loop-more-preserved : goal.loop-more-preserved
loop-more-preserved c = record {
  rest = let each = c.args.each.now in let k = c.loop-more.more-index in
      ap (λ (ns : List Node). added ns (flat_map (λ (s : Bor (List Node)). s.now) (drop (k + 1) each))) c.in_ok-add.ensures.added
      ∙ (sym (next_list c.loop-more.met.nodes.items each k _ c.loop-more-test.true) ∙ c.loop-more.invariant.rest);
  noted = c.in_ok-add.ensures.noted;
}
