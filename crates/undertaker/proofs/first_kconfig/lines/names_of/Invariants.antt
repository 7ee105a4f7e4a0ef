-- The names so far, and those of the words that are left.
use Rattle.std.proofs.Common.{◌≡◌, true, map, drop}
use Rattle.undertaker.specs.FirstKconfig.Form.{names_from}
use Rattle.undertaker.specs.FirstKconfig.Words.{with_names}
use Rattle.undertaker.proofs.first_kconfig.lines.names_of.Given as goal

abbrev pub invariant-loop-word : goal.invariant-loop-word
invariant-loop-word l = with_names l.names (names_from l.wants_name (map (λ t. t.now) (drop l.word-index l.words))) ≡ names_from true (map (λ t. t.now) l.words)
