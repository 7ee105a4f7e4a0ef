use Rattle.case_laws.proofs.Stand.{nodes_stand}
use Rattle.case_laws.proofs.standing.nodes_stand_for.Goals as goal

pub returns : goal.returns
returns c = nodes_stand (record {
  owns = c.formulas_say_written.ensures.mentions;
  fitting = c.facts_are_closed.ensures.lists;
  known = c.facts_are_orderly.ensures.known;
  given = c.facts_list_their_own.ensures.given;
}) (record {
  named = c.facts_are_closed.ensures.named;
  known = c.facts_are_orderly.ensures.known;
  stand = c.truths_stand.ensures;
  part = c.closed_nodes_are_a_part.ensures;
}) c.questions_are_known.ensures
