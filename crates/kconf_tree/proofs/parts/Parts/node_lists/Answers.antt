use Rattle.std.proofs.Common.{sym, ap, ◌∙◌, map, arith}
use Rattle.std.specs.List.{range_with_len}
use Rattle.std.specs.Cmp.{eq_by_cmp_equiv}
use Rattle.std.proofs.lemmas.List.FromFn.{map-range_with_len_more}
use Rattle.indexmap.specs.IndexSet.{insert_key}
use Rattle.ut_logic.specs.Node.{node_eq, node_total}
use Rattle.kconf_tree.specs.Gathered.{distinct}
use Rattle.kconf_tree.specs.References.{node_of}
use Rattle.kconf_tree.proofs.Places.{distinct_push}
use Rattle.kconf_tree.proofs.parts.Parts.node_lists.Goals as goal

pub loop-sym-preserved : goal.loop-sym-preserved
loop-sym-preserved c = let t = c.args.self.now in let n = c.loop-sym.sym in record {
  nodes = c.in_ok-add_node.ensures.nodes ∙ (ap (λ ks. insert_key node_eq ks (node_of t n)) c.loop-sym.invariant.nodes
      ∙ (sym (distinct_push node_eq (eq_by_cmp_equiv node_total) (map (node_of t) (range_with_len 0 n)) (node_of t n))
      ∙ ap (distinct node_eq) (sym (map-range_with_len_more (node_of t) 0 n n (omega arith)))));
  lists = c.in_ok-add_node.ensures.lists;
  within = c.in_ok-add_node.ensures.within;
}
