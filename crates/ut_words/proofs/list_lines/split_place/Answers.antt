use Rattle.std.proofs.Common.{arith}
use Rattle.ut_words.proofs.ListLines.{is_place, no_bounds, no_colon, no_number}
use Rattle.ut_words.proofs.list_lines.split_place.Goals as goal

pub returns-in_err-number : goal.returns-in_err-number
returns-in_err-number c = rw c.from_residual.ensures (no_number _ (rw c.new-tail.ensures at c.in_err-number.ensures.none))

pub returns-then-number-eq0 : goal.returns-then-number-eq0
returns-then-number-eq0 c = no_bounds _ _ _ (rw c.new-tail.ensures at c.in_ok-number.ensures.found) c.then-number-eq0.either

pub returns-then-not-word : goal.returns-then-not-word
returns-then-not-word c = no_colon _ _ _ (rw c.new-tail.ensures at c.in_ok-number.ensures.found) c.if-not-word.ensures.other

pub returns : goal.returns
returns c = rw c.rest.ensures (is_place _ _ _ _ (rw c.new-tail.ensures at c.in_ok-number.ensures.found) (omega arith) (omega arith) c.if-not-word.ensures.passed)
