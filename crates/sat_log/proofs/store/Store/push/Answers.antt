use Rattle.std.proofs.Common.{◌≡◌, ◌≤◌, length, map, ap, ◌∙◌, arith}
use Rattle.std.proofs.lemmas.List.{length-map}
use Rattle.sat_log.specs.Codes.{code_of}
use Rattle.sat_log.specs.Stores.{clauses_from}
use Rattle.sat_log.proofs.Storing.{on_err, kept_front, kept_grown, pushed_grown, last_low}
use Rattle.sat_log.proofs.store.Store.push.Goals as goal

pub overflow_sub-start : goal.overflow_sub-start
overflow_sub-start c =
    let s = c.self.inside in
    let at = rw c.as_slice.ensures.value at c.end_of-start.ensures in
    omega (arith, at, last_low 0 s.ends.items (length s.codes.items) c.self.invariant.ends_rise, c.self.invariant.few)

pub invariant_of-self : goal.invariant_of-self
invariant_of-self c =
    let s = c.self.inside in
    let e = rw (c.end_of-start.ensures, c.as_slice.ensures.value) at c.truncate.ensures.items in
    rw e (kept_front s.ends.items s.codes.items c.self.invariant).0

pub returns-then-start-lits-clause-err : goal.returns-then-start-lits-clause-err
returns-then-start-lits-clause-err c =
    let s = c.self.inside in
    let e = rw (c.end_of-start.ensures, c.as_slice.ensures.value) at c.truncate.ensures.items in
    rw (← c.self.view_is, e) (kept_front s.ends.items s.codes.items c.self.invariant).1

pub invariant_of-self-in_err-push_codes : goal.invariant_of-self-in_err-push_codes
invariant_of-self-in_err-push_codes c =
    let s = c.self.inside in
    let at = rw c.as_slice.ensures.value at c.end_of-start.ensures in
    (kept_grown s.ends.items s.codes.items c.self.invariant c.end_of-start.result (length c.args.lits.now) _ _ c.truncate.ensures.items at c.if-start-lits.false c.in_err-push_codes.ensures.err).0

pub returns-in_err-push_codes-clause-err : goal.returns-in_err-push_codes-clause-err
returns-in_err-push_codes-clause-err c =
    let s = c.self.inside in
    let at = rw c.as_slice.ensures.value at c.end_of-start.ensures in
    let kept = kept_grown s.ends.items s.codes.items c.self.invariant c.end_of-start.result (length c.args.lits.now) _ _ c.truncate.ensures.items at c.if-start-lits.false c.in_err-push_codes.ensures.err in
    on_err _ (kept.1 ∙ c.self.view_is)

pub invariant_of-self-in_err-push : goal.invariant_of-self-in_err-push
invariant_of-self-in_err-push c =
    let s = c.self.inside in
    let at = rw c.as_slice.ensures.value at c.end_of-start.ensures in
    let more = map code_of c.args.lits.now in
    rw c.in_err-push.ensures.items (kept_grown s.ends.items s.codes.items c.self.invariant c.end_of-start.result (length c.args.lits.now) _ _ c.truncate.ensures.items at c.if-start-lits.false (more, c.in_ok-push_codes.ensures.ok, omega (arith, length-map c.args.lits.now code_of))).0

pub returns-in_err-push-clause-err : goal.returns-in_err-push-clause-err
returns-in_err-push-clause-err c =
    let s = c.self.inside in
    let at = rw c.as_slice.ensures.value at c.end_of-start.ensures in
    let more = map code_of c.args.lits.now in
    let kept = kept_grown s.ends.items s.codes.items c.self.invariant c.end_of-start.result (length c.args.lits.now) _ _ c.truncate.ensures.items at c.if-start-lits.false (more, c.in_ok-push_codes.ensures.ok, omega (arith, length-map c.args.lits.now code_of)) in
    on_err _ (ap (λ e. clauses_from 0 e c.push_codes.new.codes.items) c.in_err-push.ensures.items ∙ kept.1 ∙ c.self.view_is)

pub invariant_of-self-2 : goal.invariant_of-self-2
invariant_of-self-2 c =
    let s = c.self.inside in
    let at = rw c.as_slice.ensures.value at c.end_of-start.ensures in
    let count : c.len.result ≡ length c.push_codes.new.codes.items = omega (arith, c.len.ensures, c.push_codes.new.codes.ok.0) in
    rw (c.in_ok-push.ensures.items, count) (pushed_grown s.ends.items s.codes.items c.self.invariant c.end_of-start.result c.args.lits.now _ _ c.truncate.ensures.items at c.if-start-lits.false c.in_ok-push_codes.ensures.ok c.requires.clause).0

pub returns-clause-ok : goal.returns-clause-ok
returns-clause-ok c =
    let s = c.self.inside in
    let at = rw c.as_slice.ensures.value at c.end_of-start.ensures in
    let count : c.len.result ≡ length c.push_codes.new.codes.items = omega (arith, c.len.ensures, c.push_codes.new.codes.ok.0) in
    rw (← c.self.view_is, c.in_ok-push.ensures.items, count) (pushed_grown s.ends.items s.codes.items c.self.invariant c.end_of-start.result c.args.lits.now _ _ c.truncate.ensures.items at c.if-start-lits.false c.in_ok-push_codes.ensures.ok c.requires.clause).1
