use Rattle.std.proofs.Common.{sym}
use Rattle.ut_text.specs.Bytes.{space}
use Rattle.kbuild_text.proofs.LineLaws.{appended, part_goes_on, part_stops}
use Rattle.kbuild_text.proofs.lines.append.Goals as goal

pub returns-in_ok-push-in-Some-clause-goes_on : goal.returns-in_ok-push-in-Some-clause-goes_on
returns-in_ok-push-in-Some-clause-goes_on c = sym (part_goes_on c.args.physical.now c.in-Some.front.now c.in-Some.last.now c.in-Some.ensures.cases.0 c.if-last-eq92.true).0

pub returns-in_ok-push-in-Some-clause-line : goal.returns-in_ok-push-in-Some-clause-line
returns-in_ok-push-in-Some-clause-line c =
    appended c.args.line.now.items c.in-Some.front.now space _ _ _ c.in_ok-extend_from_slice-in-Some.ensures.items c.in_ok-push-in-Some.ensures.items
    (part_goes_on c.args.physical.now c.in-Some.front.now c.in-Some.last.now c.in-Some.ensures.cases.0 c.if-last-eq92.true).1

pub returns-in_ok-push-in-Some-2-clause-goes_on : goal.returns-in_ok-push-in-Some-2-clause-goes_on
returns-in_ok-push-in-Some-2-clause-goes_on c = sym (part_stops c.args.physical.now c.in-Some.front.now c.in-Some.last.now c.in-Some.ensures.cases.0 c.if-last-eq92.false).0

pub returns-in_ok-push-in-Some-2-clause-line : goal.returns-in_ok-push-in-Some-2-clause-line
returns-in_ok-push-in-Some-2-clause-line c =
    appended c.args.line.now.items c.in-Some.front.now c.in-Some.last.now _ _ _ c.in_ok-extend_from_slice-in-Some.ensures.items c.in_ok-push-in-Some-2.ensures.items
    (part_stops c.args.physical.now c.in-Some.front.now c.in-Some.last.now c.in-Some.ensures.cases.0 c.if-last-eq92.false).1
