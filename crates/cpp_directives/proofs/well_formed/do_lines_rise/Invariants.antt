-- What is left decides.
use Rattle.std.proofs.Common.{◌≡◌, drop}
use Rattle.cpp_directives.specs.WellFormed.{lines_rise}
use Rattle.cpp_directives.proofs.well_formed.do_lines_rise.Given as goal

abbrev pub invariant-loop-directive : goal.invariant-loop-directive
invariant-loop-directive l = lines_rise l.line (drop l.directive-index l.list) ≡ lines_rise 0 l.list
