use Rattle.std.proofs.Common.{◌≡◌, ◌∙◌, ap, sym, arith, true}
use Rattle.ut_words.specs.Values as spec
use Rattle.ut_words.proofs.NumberLaws.{past_limit, out_of_limits, in_limits, numeral_is}
use Rattle.ut_words.proofs.numbers.number_between.Goals as goal

pub returns-in_err-number-clause-value : goal.returns-in_err-number-clause-value
returns-in_err-number-clause-value c =
    let bytes = c.as_bytes-digits.ensures.value in
    let is : spec.is_number c.args.text.now ≡ true = ap spec.is_number (sym bytes) ∙ sym c.if-not-is_number.ensures in
    c.from_residual.ensures ∙ past_limit c.args.text.now c.args.first c.args.last is (omega arith) (λ n small same. c.in_err-number.ensures.none n small (bytes ∙ same))

pub returns-then-number-first-clause-value : goal.returns-then-number-first-clause-value
returns-then-number-first-clause-value c =
    let n = c.in_ok-number.number in
    let value = numeral_is c.args.text.now n c.in_ok-number.ensures.found.0 (sym c.as_bytes-digits.ensures.value ∙ c.in_ok-number.ensures.found.1) in
    out_of_limits c.args.text.now c.args.first c.args.last n value c.then-number-first.either

pub returns-clause-value : goal.returns-clause-value
returns-clause-value c =
    let bytes = c.as_bytes-digits.ensures.value in
    let n = c.in_ok-number.number in
    let is : spec.is_number c.args.text.now ≡ true = ap spec.is_number (sym bytes) ∙ sym c.if-not-is_number.ensures in
    let value = numeral_is c.args.text.now n c.in_ok-number.ensures.found.0 (sym bytes ∙ c.in_ok-number.ensures.found.1) in
    in_limits c.args.text.now c.args.first c.args.last n is value c.if-number-first.false c.if-last-number.false
