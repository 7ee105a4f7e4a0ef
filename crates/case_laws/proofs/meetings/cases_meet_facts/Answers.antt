use Rattle.case_laws.proofs.CaseFacts.{cases_meet}
use Rattle.case_laws.proofs.meetings.cases_meet_facts.Goals as goal

pub returns : goal.returns
returns c = cases_meet c.truths_are_read_back.ensures c.rules_meet_facts.ensures c.facts_are_closed.ensures.closed c.formulas_say_written.ensures.says c.formulas_say_written.ensures.mentions
    c.rules_look_at_the_tree.ensures.written c.facts_are_the_run.ensures
