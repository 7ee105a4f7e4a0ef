-- The truths so far.
use Rattle.std.proofs.Common.{◌≡◌, map, take}
use Rattle.std.specs.List.{list_all, list_any}
use Rattle.cpp_blocks.specs.RunSteps.{holds_at}
use Rattle.cpp_blocks.proofs.running.+holding.Given as goal

abbrev pub invariant-all_hold-loop-part : goal.invariant-all_hold-loop-part
invariant-all_hold-loop-part l = l.all ≡ list_all (λ b. b) (map (holds_at l.place l.states) (take l.part-index l.list))

abbrev pub invariant-any_holds-loop-part : goal.invariant-any_holds-loop-part
invariant-any_holds-loop-part l = l.any ≡ list_any (λ b. b) (map (holds_at l.place l.states) (take l.part-index l.list))
