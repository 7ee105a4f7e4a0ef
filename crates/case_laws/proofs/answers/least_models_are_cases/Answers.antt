use Rattle.case_laws.proofs.LeastCases.{least_cases}
use Rattle.case_laws.proofs.answers.least_models_are_cases.Goals as goal

pub returns : goal.returns
returns c = least_cases (record {
  lists = record {
    owns = c.formulas_say_written.ensures.mentions;
    fitting = c.facts_are_closed.ensures.lists;
    known = c.facts_are_orderly.ensures.known;
    given = c.facts_list_their_own.ensures.given;
  };
  parts = record {
    named = c.facts_are_closed.ensures.named;
    known = c.facts_are_orderly.ensures.known;
    stand = c.truths_stand.ensures;
    part = c.closed_nodes_are_a_part.ensures;
  };
  complete = c.parts_complete.ensures;
  known = c.questions_are_known.ensures;
  listed = c.questions_are_listed.ensures;
  over = c.clauses_stand_over.ensures;
  models = c.least_models_are_least.ensures;
  truths = c.cases_have_truths.ensures;
  least = c.least_truths_are_least.ensures;
})
