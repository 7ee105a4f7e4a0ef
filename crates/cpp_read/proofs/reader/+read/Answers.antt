use Rattle.std.proofs.Common.{◌≡◌, ◌<◌, true, false, List, take, drop, length, suc, ap, sym, ◌∙◌, refl, subst, arith}
use Rattle.std.specs.Prelude.{Ok, Result}
use Rattle.std.proofs.lemmas.Result.{err_from_is_err_and}
use Rattle.std.proofs.Math.Seq.{take-length}
use Rattle.cpp_directives.specs.declared.bad.CppBad.{CppBad}
use Rattle.cpp_directives.specs.declared.condition.Cond.{Cond}
use Rattle.cpp_read.specs.declared.token.Token.{Token}
use Rattle.cpp_read.specs.Depth.{before_at, parts}
use Rattle.cpp_read.specs.Depth.{is_group}
use Rattle.cpp_read.specs.Operands.{is_negation}
use Rattle.cpp_read.specs.Conditions.{each}
use Rattle.cpp_directives.specs.Refusals.{Fails, Answers}
use Rattle.cpp_read.proofs.DepthLemmas.{fails_part, next_part, last_part, before_within}
use Rattle.cpp_read.proofs.RowLaws.{row_answers, row_fails}
use Rattle.cpp_read.proofs.reader.+read.Goals as goal

pub read_parts-returns-in_err-part : goal.read_parts-returns-in_err-part
read_parts-returns-in_err-part t c = λ f r.
    let p = err_from_is_err_and c.from_residual.result c.from_residual.ensures.1 in
    rw (p.1, p.2) (fails_part c.in_err-part.field-0.0 f c.parts.list.items c.args.joint c.parts.rest.now (each f (parts c.args.joint c.args.tokens.now))
    (subst (λ n. Fails c.in_err-part.field-0.0 (f (take n c.parts.rest.now))) c.before-count.ensures.value (c.in_err-part.ensures f r))
    (c.parts.invariant.left f r))

pub read_parts-parts-preserved : goal.read_parts-parts-preserved
read_parts-parts-preserved t c =
    let inside : before_at c.args.joint 0 c.parts.rest.now < length c.parts.rest.now = omega (arith, c.before-count.ensures.value, c.before-count.ensures.within) in
    record {
      left = λ f r. next_part f c.parts.list.items c.push.new.self.items c.args.joint c.parts.rest.now c.after-rest.result.now c.in_ok-part.part (each f (parts c.args.joint c.args.tokens.now))
          inside
          (subst (λ n. f (take n c.parts.rest.now) ≡ Ok c.in_ok-part.part) c.before-count.ensures.value (c.in_ok-part.ensures f r))
          c.in_ok-push.ensures.items
          (c.after-rest.ensures.value ∙ ap (λ n. drop (suc n) c.parts.rest.now) c.before-count.ensures.value)
          (c.parts.invariant.left f r);
      short = omega (arith, before_within c.args.joint 0 c.after-rest.result.now, c.after-rest.ensures.len, c.parts.invariant.within);
      within = omega (arith, c.after-rest.ensures.len, c.parts.invariant.within);
    }

pub read_parts-returns : goal.read_parts-returns
read_parts-returns t c = λ f r.
    let whole : before_at c.args.joint 0 c.parts.rest.now ≡ length c.parts.rest.now = sym c.before-count.ensures.value ∙ c.if-count-rest.true in
    last_part f c.parts.list.items c.push.new.self.items c.args.joint c.parts.rest.now c.in_ok-part.part (each f (parts c.args.joint c.args.tokens.now))
    whole
    (subst (λ (ts : List Token). f ts ≡ Ok c.in_ok-part.part) (ap (λ n. take n c.parts.rest.now) c.if-count-rest.true ∙ take-length c.parts.rest.now) (c.in_ok-part.ensures f r))
    c.in_ok-push.ensures.items
    (c.parts.invariant.left f r)

pub read_row-returns-in_err-operand : goal.read_row-returns-in_err-operand
read_row-returns-in_err-operand t c = λ f r.
    let p = err_from_is_err_and c.from_residual.result c.from_residual.ensures.1 in
    rw (p.1, p.2) (row_fails c.args.line f c.args.tokens.now c.after_row.result.now c.in_err-operand.field-0.0 r c.requires c.after_row.ensures.value (c.in_err-operand.ensures f r))

pub read_row-returns : goal.read_row-returns
read_row-returns t c = λ f r. row_answers c.args.line f c.args.tokens.now c.after_row.result.now c.row_len-count.result c.in_ok-operand.operand _ r c.requires c.after_row.ensures.value c.row_len-count.ensures.value (c.in_ok-operand.ensures f r) c.in_ok-negated.ensures

pub read_single-returns-then-is_group : goal.read_single-returns-then-is_group
read_single-returns-then-is_group t c = λ f r.
    let other : is_negation c.args.tokens.now ≡ false = sym c.is_negation.ensures ∙ c.if-is_negation.false in
    let group : is_group c.args.tokens.now ≡ true = sym c.is_group.ensures ∙ c.if-is_group.true in
    rw (other, group) (subst (λ (x : Result Cond CppBad). Answers c.read.result x) (c.core.ensures.same c.args.line f r) (c.read.ensures f r))
