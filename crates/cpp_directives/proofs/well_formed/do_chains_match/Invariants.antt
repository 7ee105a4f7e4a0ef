-- The stack stands for what was passed, and what is left decides.
use Rattle.std.proofs.Common.{◌≡◌, List, [], drop}
use Rattle.std.specs.Prelude.{is_ok}
use Rattle.cpp_directives.specs.Chains.{Earlier}
use Rattle.cpp_directives.specs.Stack.{IsStackOf}
use Rattle.cpp_directives.specs.WellFormed.{all_passing}
use Rattle.cpp_directives.proofs.well_formed.do_chains_match.Given as goal

abbrev pub invariant-loop-directive : goal.invariant-loop-directive
invariant-loop-directive l = (before : List Earlier) × IsStackOf l.chains before × (is_ok (all_passing before (drop l.directive-index l.list)) ≡ is_ok (all_passing [] l.list))
