-- The words so far, and those of what is left.
use Rattle.std.proofs.Common.{length}
use Rattle.kconf_cut.proofs.WordLemmas.{Goes}
use Rattle.kconf_cut.proofs.cutting.cut_words.Given as goal

abbrev pub invariant-words : goal.invariant-words
invariant-words l = Goes l.vars l.line l.words.items l.rest

abbrev pub decreases-words : goal.decreases-words
decreases-words l = length l.rest
