use Rattle.std.proofs.Common.{◌≡◌, ◌&&◌, drop}
use Rattle.ut_words.specs.Values.{are_distinct}
use Rattle.ut_words.proofs.DistinctLaws.{none_of}
use Rattle.ut_words.proofs.OneByOne.{bytes_of}
use Rattle.ut_words.proofs.distinct.are_distinct.Given as goal

abbrev pub invariant-loop-text : goal.invariant-loop-text
invariant-loop-text l =
    are_distinct (bytes_of l.texts) ≡ (none_of l.seen.keys (bytes_of (drop l.text-index l.texts)) && are_distinct (bytes_of (drop l.text-index l.texts)))
