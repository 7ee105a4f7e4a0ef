-- What is taken and what is left make the whole.
use Rattle.std.proofs.Common.{◌≡◌, ◌++◌, map, length}
use Rattle.undertaker.specs.FirstKconfig.Form.{words_of}
use Rattle.undertaker.proofs.first_kconfig.lines.words_of.Given as goal

abbrev pub invariant-words : goal.invariant-words
invariant-words l = map (λ t. t.now) l.list.items ++ words_of l.rest ≡ words_of l.text

abbrev pub decreases-words : goal.decreases-words
decreases-words l = length l.rest
