use Rattle.std.proofs.Common.{arith}
use Rattle.ut_text.proofs.DecimalLaws.{stays_large, digit_range}
use Rattle.ut_text.proofs.decimals.value_of.Goals as goal

pub returns-in_err-checked_mul : goal.returns-in_err-checked_mul
returns-in_err-checked_mul c = rw c.from_residual.ensures (λ small.
    stays_large c.loop-digit.value _ _ 0 c.loop-digit-test.true (omega (arith, c.in_err-checked_mul.ensures)) (rw c.loop-digit.invariant.same small))

pub overflow_sub-digit : goal.overflow_sub-digit
overflow_sub-digit c = (digit_range _ _ c.requires c.loop-digit-test.true).0

pub returns-in_err-value : goal.returns-in_err-value
returns-in_err-value c = rw c.from_residual-in_err-value.ensures (λ small.
    stays_large c.loop-digit.value _ _ 0 c.loop-digit-test.true (omega (arith, c.in_err-value.ensures, c.in_ok-checked_mul.ensures, c.from.ensures)) (rw c.loop-digit.invariant.same small))
