use Rattle.std.proofs.Common.{◌≡◌, ◌+◌, ◌*◌, [], suc, drop, drop-cons, get_or, sym, ap, ◌∙◌, refl, arith}
use Rattle.std.specs.Prelude.{None}
use Rattle.std.proofs.Math.ListN.{drop_of_length-le}
use Rattle.cpp_read.specs.Numbers.{digits, digit_value}
use Rattle.cpp_read.specs.NumberSteps.{base_of, capped}
use Rattle.cpp_read.proofs.NumberLemmas.{stays_wide, some_capped}
use Rattle.cpp_read.proofs.number.digits_value.Goals as goal

pub returns-in_err-value : goal.returns-in_err-value
returns-in_err-value c =
    let more : None ≡ capped (c.loop-byte.value * base_of c.args.base + digit_value (get_or c.args.text.now c.loop-byte.byte-index 0)) =
    sym c.in_err-value.was ∙ c.appended.ensures ∙ rw (c.value_of.ensures, c.digit_value.ensures) refl in
    c.from_residual.ensures
    ∙ stays_wide c.args.base c.loop-byte.value (get_or c.args.text.now c.loop-byte.byte-index 0) (drop (suc c.loop-byte.byte-index) c.args.text.now) (drop c.loop-byte.byte-index c.args.text.now)
    (digits (base_of c.args.base) 0 c.args.text.now) more (drop-cons c.args.text.now c.loop-byte.byte-index 0 (omega arith)) c.loop-byte.invariant.left

pub returns : goal.returns
returns c =
    let none : drop c.loop-byte.byte-index c.args.text.now ≡ [] = drop_of_length-le c.args.text.now (omega arith) in
    let all = rw none at c.loop-byte.invariant.left in
    some_capped c.loop-byte.value c.loop-byte.invariant.fits ∙ ap capped all
