use Rattle.log_check.proofs.StepLaws.{step_body}
use Rattle.log_check.proofs.steps.read_number_and_line.Goals as goal

pub returns-in_default-2 : goal.returns-in_default-2
returns-in_default-2 c = λ n line h.
    let none = rw c.in_default-2.is at c.in_ok-line.ensures in
    none line (step_body _ _ _ n line (rw c.new-cursor.ensures at c.in-Some.ensures.found) h)
