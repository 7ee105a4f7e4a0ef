use Rattle.std.proofs.Common.{◌≡◌, arith, subst}
use Rattle.std.proofs.lemmas.Bool.{false≢true}
use Rattle.ut_text.proofs.DecimalLaws.{some_from_test}
use Rattle.line_texts.proofs.GrammarLaws.{continues_after, outside_here}
use Rattle.line_texts.proofs.LineLaws.{whole_last_line}
use Rattle.log_check.specs.DerivationText.{IsFirstOutside}
use Rattle.log_check.proofs.TextLaws.{no_newline_no_step, no_step_here, wrong_number, step_taken}
use Rattle.log_check.proofs.texts.read_lines.Goals as goal

pub returns-in_default-clause-line : goal.returns-in_default-clause-line
returns-in_default-clause-line c = λ number e.
    let same : c.loop-rest.number ≡ number = cc in
    let plain = rw c.in_default.is at c.split_whole_line.ensures.none in
    subst (IsFirstOutside c.args.bytes.now) same
    (outside_here c.loop-rest.invariant.reads _ _ (whole_last_line c.loop-rest.rest.now (some_from_test _ _ c.is_empty.ensures c.loop-rest-test.true) plain)
    (λ next. no_newline_no_step _ _ _ next plain))

pub returns-in_default-2-clause-line : goal.returns-in_default-2-clause-line
returns-in_default-2-clause-line c = λ number e.
    let same : c.loop-rest.number ≡ number = cc in
    subst (IsFirstOutside c.args.bytes.now) same
    (outside_here c.loop-rest.invariant.reads _ _ c.in-Some.ensures.found
    (λ next. no_step_here _ _ _ next (λ n line h. c.in_default-2.not-Some (n, line) (c.in_ok-step_number.ensures.only n line h))))

pub returns-then-not-may_follow-clause-line : goal.returns-then-not-may_follow-clause-line
returns-then-not-may_follow-clause-line c = λ number e.
    let same : c.loop-rest.number ≡ number = cc in
    subst (IsFirstOutside c.args.bytes.now) same
    (outside_here c.loop-rest.invariant.reads _ _ c.in-Some.ensures.found
    (λ next. wrong_number _ _ _ next _ _ (rw c.in-Some-2.is at c.in_ok-step_number.ensures.found)
    (λ follows. false≢true (c.if-not-may_follow.ensures.1 follows))))

pub loop-rest-preserved : goal.loop-rest-preserved
loop-rest-preserved c =
    let taken =
    step_taken c.loop-rest.lines.items c.loop-rest.last c.in-Some.step.now _ c.in-Some-2.step_number c.in-Some-2.line
    (rw c.in-Some-2.is at c.in_ok-step_number.ensures.found) (c.may_follow.ensures.0 c.if-not-may_follow.false) in
    rw c.in_ok-push.ensures.items (record {
      reads = continues_after c.loop-rest.invariant.reads _ _ _ c.in-Some.ensures.found taken;
      room = omega (arith, c.loop-rest.invariant.room, c.in-Some.ensures.shorter);
    })
