use Rattle.std.proofs.Common.{◌≡◌, ◌++◌, length, map}
use Rattle.std.specs.declared.result.Result.TheVariants.{Ok}
use Rattle.std.specs.Vec.Iter.{into_iter_items, into_iter_len}
use Rattle.ut_workers.proofs.stripes.all_judged.Given as goal

abbrev pub invariant-loop-judged : goal.invariant-loop-judged
invariant-loop-judged g l =
    (map Ok l.stripes.items ++ into_iter_items l.judged-iterator ≡ into_iter_items l.initial.judged-iterator)
    × (into_iter_len l.judged-iterator ≡ length (into_iter_items l.judged-iterator))
