use Rattle.std.proofs.Common.{rules, ◌≡◌, length}
use Rattle.ut_base.specs.declared.outside.PutEnd.TheVariants as put
use Rattle.undertaker_run.proofs.OutputLaws.{nothing_left, puts_nothing, puts_part}
use Rattle.undertaker_run.proofs.output.Output.put_lines.Goals as goal

pub returns-in-Failed-clause-taken : goal.returns-in-Failed-clause-taken
returns-in-Failed-clause-taken g c =
    c.loop-rest.invariant.leads _ put.Failed (rw c.first_line.ensures.whole (puts_part _ _ _ _ c.in-Failed.ensures.taken))

pub returns-clause-taken : goal.returns-clause-taken
returns-clause-taken g c =
    let none : length c.loop-rest.rest.now ≡ 0 = search rules in
    c.loop-rest.invariant.leads _ put.Done (rw (nothing_left _ none) (puts_nothing _))
