-- The exit status of each way that a run ends. This project's rule.
use Rattle.std.specs.Prelude.{ℕ}
use Rattle.undertaker_run.specs.declared.status.Status.{Status}
use Rattle.undertaker_run.specs.declared.status.Status.TheVariants as status

-- the number that the program ends with
abbrev pub code_of : Status → ℕ
code_of status.Well = 0
code_of status.Usage = 2
code_of status.Refused = 3
code_of status.Missing = 4
code_of status.ReadFault = 5
code_of status.WriteFault = 6
code_of status.Memory = 7
code_of status.Limit = 8
code_of status.Wrong = 9
