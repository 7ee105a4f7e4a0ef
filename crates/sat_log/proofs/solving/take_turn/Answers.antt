use Rattle.std.proofs.Common.{◌∙◌}
use Rattle.sat_log.proofs.Searching.{none_at, sets_steps, step_turn}
use Rattle.sat_log.proofs.solving.take_turn.Goals as goal

pub returns-in-Some-first_forcing-clause-turn : goal.returns-in-Some-first_forcing-clause-turn
returns-in-Some-first_forcing-clause-turn c =
    let turned = step_turn _ _ _ _ _ c.steps.ensures.within c.steps.ensures.reached (rw c.is_full.ensures.state c.requires) (λ e. c.if-steps-budget.false (c.steps.ensures.count ∙ e))
    (sets_steps _ _ _ _ _ (rw (c.first_forcing.ensures.clauses, c.first_forcing.ensures.state) at c.propagate.ensures.sets)) in
    rw (c.is_full.ensures.vars, c.is_full.ensures.clauses, c.is_full.ensures.state) at turned

pub first_forcing-requires : goal.first_forcing-requires
first_forcing-requires c = rw (c.is_full.ensures.clauses, c.is_full.ensures.state) (none_at _ _ c.in_default.not-Some c.first_false.ensures.none)

pub decide-requires-clause-quiet : goal.decide-requires-clause-quiet
decide-requires-clause-quiet c =
    let forcing = rw c.in-None.is at c.first_forcing.ensures.none in
    rw (c.first_forcing.ensures.clauses, c.first_forcing.ensures.state, c.is_full.ensures.clauses, c.is_full.ensures.state) (record {
      none_false = none_at _ _ c.in_default.not-Some c.first_false.ensures.none;
      none_forcing = rw (c.is_full.ensures.clauses, c.is_full.ensures.state) at forcing;
    })
