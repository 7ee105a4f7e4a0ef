use Rattle.std.proofs.Common.{refl}
use Rattle.kconf_constr.specs.FactsOf.{facts_of}
use Rattle.kconf_constr.proofs.ClosedLaws.{closed_of, named_of}
use Rattle.kconf_constr.proofs.ListsLaws.{each_lists}
use Rattle.kconf_constr.proofs.laws.facts_are_closed.Goals as goal

pub returns-clause-closed : goal.returns-clause-closed
returns-clause-closed a s made = closed_of s s (facts_of s) refl refl made

pub returns-clause-named : goal.returns-clause-named
returns-clause-named a s made = named_of s s (facts_of s) refl refl made

pub returns-clause-lists : goal.returns-clause-lists
returns-clause-lists a s made = each_lists s made
