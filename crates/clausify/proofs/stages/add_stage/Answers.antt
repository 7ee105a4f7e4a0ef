use Rattle.std.proofs.Common.{Bor, take, map, sym, subst}
use Rattle.ut_logic.specs.declared.facts.Fact.{Fact}
use Rattle.clausify.specs.Form.{Form}
use Rattle.clausify.specs.ClauseForm.{var_of}
use Rattle.clausify.specs.Order.{staged}
use Rattle.clausify.specs.Draft.{IsDraft}
use Rattle.clausify.proofs.Shifts.{staged_next}
use Rattle.clausify.proofs.SettledLaws.{known_at}
use Rattle.clausify.proofs.stages.add_stage.Goals as goal

pub add_fact-requires-clause-known : goal.add_fact-requires-clause-known
add_fact-requires-clause-known c = known_at (var_of c.args.vars.now) c.args.facts.now c.loop-place.place _ c.index-facts-place.result c.loop-place-test.true c.index-facts-place.is c.requires.known

pub loop-place-preserved : goal.loop-place-preserved
loop-place-preserved c = record {
  settled = c.in_ok-add_fact.ensures.settled;
  draft = λ s d. let at = var_of c.args.vars.now in
      subst (λ (t : Form). IsDraft t c.add_fact.new.draft.written c.add_fact.new.draft.clauses.items)
      (sym (staged_next at c.args.stage c.args.facts.now c.loop-place.place _ c.index-facts-place.result s c.loop-place-test.true c.index-facts-place.is))
      (c.in_ok-add_fact.ensures.draft (staged at c.args.stage (map (λ (f : Bor Fact). f.now) (take c.loop-place.place c.args.facts.now)) s) (c.loop-place.invariant.draft s d));
}
