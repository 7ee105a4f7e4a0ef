use Rattle.std.proofs.Common.{refl}
use Rattle.undertaker_run.specs.Ends.{sink_stand}
use Rattle.undertaker_run.proofs.Causes.{runs, runs_as}
use Rattle.undertaker_run.proofs.EndLaws.{complete, exact, golem, missing, read_fault, refused_ends, usage, why}
use Rattle.undertaker_run.proofs.top.run.Goals as goal

pub returns-clause-runs : goal.returns-clause-runs
returns-clause-runs g c = search runs_as

pub returns-clause-usage : goal.returns-clause-usage
returns-clause-usage g c = usage (returns-clause-runs g c)

pub returns-clause-exact : goal.returns-clause-exact
returns-clause-exact g c = exact _ (returns-clause-runs g c) refl

pub returns-clause-golem : goal.returns-clause-golem
returns-clause-golem g c = golem _ (returns-clause-runs g c) refl

pub returns-in-Err-clause-runs : goal.returns-in-Err-clause-runs
returns-in-Err-clause-runs g c = runs c.in-Err.ensures (refused_ends (sink_stand g.O.Sink c.args.out.now) c.refuse.ensures)

pub returns-in-Err-clause-why : goal.returns-in-Err-clause-why
returns-in-Err-clause-why g c = why (returns-in-Err-clause-runs g c)

pub returns-in-Err-clause-usage : goal.returns-in-Err-clause-usage
returns-in-Err-clause-usage g c = usage (returns-in-Err-clause-runs g c)

pub returns-in-Err-clause-read_fault : goal.returns-in-Err-clause-read_fault
returns-in-Err-clause-read_fault g c = read_fault (returns-in-Err-clause-runs g c)

pub returns-in-Err-clause-missing : goal.returns-in-Err-clause-missing
returns-in-Err-clause-missing g c = missing (returns-in-Err-clause-runs g c)

pub returns-in-Err-clause-exact : goal.returns-in-Err-clause-exact
returns-in-Err-clause-exact g c = exact _ (returns-in-Err-clause-runs g c) refl

pub returns-in-Err-clause-complete : goal.returns-in-Err-clause-complete
returns-in-Err-clause-complete g c = complete _ (returns-in-Err-clause-runs g c) refl

pub returns-in-Err-clause-golem : goal.returns-in-Err-clause-golem
returns-in-Err-clause-golem g c = golem _ (returns-in-Err-clause-runs g c) refl
