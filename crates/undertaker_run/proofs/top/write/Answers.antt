use Rattle.std.proofs.Common.{refl}
use Rattle.undertaker_run.specs.Ends.{BrokeOff, Wrote}
use Rattle.undertaker_run.proofs.top.write.Goals as goal

pub returns-in-Done-clause-ends : goal.returns-in-Done-clause-ends
returns-in-Done-clause-ends g c = Wrote _ refl refl c.in-Done.ensures.taken refl

pub returns-in-Failed-clause-ends : goal.returns-in-Failed-clause-ends
returns-in-Failed-clause-ends g c =
    let taken = c.in-Failed.ensures.taken in
    BrokeOff _ refl refl (record { part = taken.0; rest = taken.1; whole = taken.2; took = taken.3; faulted = c.in-Failed.ensures.failed.rose refl }) c.say.ensures
