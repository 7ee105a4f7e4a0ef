-- What the lines so far leave open, and those that are left.
use Rattle.std.proofs.Common.{◌≡◌, drop}
use Rattle.kconf_progress.specs.Openers.{unclosed_after, unclosed}
use Rattle.kconf_progress.proofs.openers.unclosed.Given as goal

abbrev pub invariant-loop-opener : goal.invariant-loop-opener
invariant-loop-opener l = unclosed_after l.line (drop l.opener-index l.openers) ≡ unclosed l.openers
