use Rattle.std.proofs.Common.{rules}
use Rattle.std.specs.Prelude.{nat_le}
use Rattle.std.proofs.lemmas.List.Sorted.{IsPartitionPoint-from_clause}
use Rattle.cpp_directives.specs.declared.directive.Directive.{Directive}
use Rattle.cpp_blocks.proofs.NestedLaws.{partitioned}
use Rattle.cpp_blocks.proofs.blocks.lines_up_to.Goals as goal

pub returns-clause-parts : goal.returns-clause-parts
returns-clause-parts c = IsPartitionPoint-from_clause (λ (d : Directive). nat_le d.line c.args.line) c.args.list.now c.partition_point.result c.partition_point.ensures.partitioned (partitioned c.args.list.now c.args.line c.requires) (λ a r f q. search rules)
