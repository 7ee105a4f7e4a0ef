use Rattle.std.proofs.Common.{◌≡◌, ◌++◌, length}
use Rattle.kbuild_text.specs.Listings as spec
use Rattle.kbuild_text.proofs.listings.goals_of.Given as goal

abbrev pub invariant-loop-word : goal.invariant-loop-word
invariant-loop-word l = l.goals ++ spec.goals_of l.folders (spec.words_of l.rest) ≡ spec.goals_of l.folders (spec.words_of l.words)

abbrev pub decreases-loop-word : goal.decreases-loop-word
decreases-loop-word l = length l.rest
