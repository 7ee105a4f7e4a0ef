use Rattle.std.proofs.Common.{◌≡◌, ◌∙◌, sym, true, arith}
use Rattle.std.proofs.lemmas.Result.{err_from_is_err_and, IfOk-weaker, IfErr-weaker}
use Rattle.kconf_exprs.specs.Grammar.{begins_with}
use Rattle.kconf_exprs.specs.Reading.{joins, list_at}
use Rattle.kconf_exprs.proofs.GrammarLaws.{factor_is}
use Rattle.kconf_exprs.proofs.ReaderLaws.{read_as, refuses_as, negated_read, negated_refused, begun_first, begun_next, fails_first, fails_next}
use Rattle.kconf_exprs.proofs.reader.+expression.Goals as goal

pub read_member-returns-in-All-clause-read : goal.read_member-returns-in-All-clause-read
read_member-returns-in-All-clause-read t c =
    rw c.in-All.is (IfOk-weaker c.read_factor.result _ _ (λ r h. read_as c.args.room _ _ r.0 r.1.now (factor_is c.args.words.now) h) c.read_factor.ensures.read)

pub read_member-returns-in-All-clause-refused : goal.read_member-returns-in-All-clause-refused
read_member-returns-in-All-clause-refused t c =
    rw c.in-All.is (IfErr-weaker c.read_factor.result _ _ (λ e h. refuses_as e c.args.room _ _ (factor_is c.args.words.now) h) c.read_factor.ensures.refused)

pub read_negated-returns-clause-read : goal.read_negated-returns-clause-read
read_negated-returns-clause-read t c =
    rw c.in_ok-inner-2.ensures (negated_read c.args.room c.args.words.now c.in_ok-inner.inner c.in_ok-inner.rest.now (omega arith) c.in_ok-inner.ensures.read)

pub read_negated-returns-in_err-inner-clause-refused : goal.read_negated-returns-in_err-inner-clause-refused
read_negated-returns-in_err-inner-clause-refused t c =
    let p = err_from_is_err_and c.from_residual.result c.from_residual.ensures.1 in
    rw (p.1, p.2) (negated_refused c.in_err-inner.field-0.0 c.args.room c.args.words.now (omega arith) c.in_err-inner.ensures.refused)

pub read_list-returns-in_err-first-clause-refused : goal.read_list-returns-in_err-first-clause-refused
read_list-returns-in_err-first-clause-refused t c =
    let p = err_from_is_err_and c.from_residual.result c.from_residual.ensures.1 in
    rw (p.1, p.2) (fails_first c.in_err-first.field-0.0 c.args.joint c.args.room c.args.words.now c.in_err-first.ensures.refused)

pub read_list-members-init : goal.read_list-members-init
read_list-members-init t c = record {
  begun = begun_first c.args.joint c.args.room c.args.words.now c.in_ok-first.first c.in_ok-first.after.now c.in_ok-first.ensures.read;
  shorter = c.in_ok-first.ensures.shorter;
}

pub read_list-returns-in_err-next-clause-refused : goal.read_list-returns-in_err-next-clause-refused
read_list-returns-in_err-next-clause-refused t c =
    let sign : begins_with (joins c.args.joint) c.members.rest.now ≡ true = sym c.begins_joint.ensures ∙ c.members-test.true in
    let p = err_from_is_err_and c.from_residual-in_err-next.result c.from_residual-in_err-next.ensures.1 in
    rw (p.1, p.2) (fails_next c.in_err-next.field-0.0 c.args.joint c.args.room (list_at c.args.joint c.args.words.now) c.members.expr c.members.rest.now c.after_first.result.now
    sign c.after_first.ensures.value c.members.invariant.begun c.in_err-next.ensures.refused)

pub read_list-members-preserved : goal.read_list-members-preserved
read_list-members-preserved t c =
    let sign : begins_with (joins c.args.joint) c.members.rest.now ≡ true = sym c.begins_joint.ensures ∙ c.members-test.true in
    record {
      begun = begun_next c.args.joint c.args.room (list_at c.args.joint c.args.words.now) c.members.expr c.in_ok-next.next c.in_ok-expr.expr c.members.rest.now c.in_ok-next.after.now c.after_first.result.now
          sign c.after_first.ensures.value c.members.invariant.begun c.in_ok-next.ensures.read c.in_ok-expr.ensures;
      shorter = omega (arith, c.in_ok-next.ensures.shorter, c.after_first.ensures.shorter, c.members.invariant.shorter);
    }
