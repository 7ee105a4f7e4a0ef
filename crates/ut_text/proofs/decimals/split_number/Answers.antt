use Rattle.ut_text.proofs.DecimalLaws.{front_digits, number_found, number_none}
use Rattle.ut_text.proofs.decimals.split_number.Goals as goal

pub numeral-requires : goal.numeral-requires
numeral-requires c = rw (c.split_at.ensures.front, c.digits_len.ensures.value) (front_digits c.args.text.now)

pub returns-in_err-number-clause-none : goal.returns-in_err-number-clause-none
returns-in_err-number-clause-none c =
    rw c.from_residual.ensures
    (number_none _ _ (rw c.digits_len.ensures.value at c.split_at.ensures.front) c.in_err-number.ensures.none)

pub returns-clause-found : goal.returns-clause-found
returns-clause-found c =
    number_found _ _ _ _ (rw c.digits_len.ensures.value at c.split_at.ensures.front) (rw c.digits_len.ensures.value at c.split_at.ensures.back) c.in_ok-number.ensures.found
