use Rattle.case_laws.proofs.Layers.{items_decide}
use Rattle.case_laws.proofs.standing.free_items_decide.Goals as goal

pub returns : goal.returns
returns c = items_decide (record {
  lists = record {
    owns = c.formulas_say_written.ensures.mentions;
    fitting = c.facts_are_closed.ensures.lists;
    known = c.facts_are_orderly.ensures.known;
    given = c.facts_list_their_own.ensures.given;
  };
  listed = c.facts_are_orderly.ensures.listed;
  orderly = c.facts_are_orderly.ensures.orderly;
}) c.questions_are_known.ensures c.questions_are_listed.ensures
