use Rattle.std.proofs.Common.{◌≡◌, ◌++◌, map, length}
use Rattle.kbuild_text.specs.Marks.{bytes_of}
use Rattle.kbuild_text.specs.Words as spec
use Rattle.kbuild_text.proofs.words.push_words.Given as goal

abbrev pub invariant-loop-word : goal.invariant-loop-word
invariant-loop-word l =
    l.text.items ++ spec.spaced (map bytes_of (spec.words_of l.rest)) ≡ l.initial.text.items ++ spec.spaced (map bytes_of (spec.words_of l.line))

abbrev pub decreases-loop-word : goal.decreases-loop-word
decreases-loop-word l = length l.rest
