-- Where the run stands, and what is left of it is the rest of the whole.
use Rattle.std.proofs.Common.{◌≡◌, drop}
use Rattle.cpp_blocks.specs.Counted.{IsCounted}
use Rattle.cpp_blocks.specs.Run.{Running, run_from, run_of}
use Rattle.cpp_blocks.specs.RunSteps.{StandsAs}
use Rattle.cpp_blocks.specs.StartWith.{start_with}
use Rattle.cpp_blocks.proofs.running.blocks_on.Given as goal

abbrev pub invariant-loop-directive : goal.invariant-loop-directive
invariant-loop-directive l = (r : Running) × StandsAs (start_with l.blocks l.start) l.so_far r × IsCounted l.turns r.touched
    × (run_from (start_with l.blocks l.start) r (drop l.directive-index l.blocks) ≡ run_of (start_with l.blocks l.start) l.blocks)
