use Rattle.kconf_tree.proofs.ReferenceLaws.{references_within}
use Rattle.kconf_tree.proofs.laws.references_are_nodes.Goals as goal

pub returns : goal.returns
returns a t made n = references_within t made n
