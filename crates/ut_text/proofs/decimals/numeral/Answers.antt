use Rattle.std.proofs.lemmas.Bool.{eqb-true, false≢true}
use Rattle.ut_text.proofs.DecimalLaws.{some_from_test, numeral_found, numeral_none, no_digits, no_leading_zero}
use Rattle.ut_text.proofs.decimals.numeral.Goals as goal

pub returns-then-is_empty-clause-none : goal.returns-then-is_empty-clause-none
returns-then-is_empty-clause-none c = no_digits _ (eqb-true _ _ (rw c.is_empty.ensures at c.if-is_empty.true))

pub returns-then-has_leading_zero-clause-none : goal.returns-then-has_leading_zero-clause-none
returns-then-has_leading_zero-clause-none c =
    let leading = c.has_leading_zero.ensures.0 c.if-has_leading_zero.true in
    no_leading_zero _ leading.0 leading.1

pub returns-clause-found : goal.returns-clause-found
returns-clause-found c =
    numeral_found _ _ c.requires (some_from_test _ _ c.is_empty.ensures c.if-is_empty.false)
    (λ leading. false≢true (c.if-has_leading_zero.ensures.1 leading)) c.value_of.ensures

pub returns-clause-none : goal.returns-clause-none
returns-clause-none c = numeral_none _ _ c.value_of.ensures
