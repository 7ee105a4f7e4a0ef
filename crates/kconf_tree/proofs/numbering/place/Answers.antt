use Rattle.std.proofs.Common.{sym, ◌∙◌}
use Rattle.ut_logic.specs.Node.{node_eq}
use Rattle.kconf_tree.proofs.Places.{no_place}
use Rattle.kconf_tree.proofs.numbering.place.Goals as goal

pub returns-in-None-clause-place : goal.returns-in-None-clause-place
returns-in-None-clause-place c = c.len.ensures.len ∙ no_place (node_eq c.args.node) c.args.nodes.now.keys (sym c.in-None.ensures.index)
