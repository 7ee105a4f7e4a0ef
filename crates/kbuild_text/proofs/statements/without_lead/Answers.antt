use Rattle.std.proofs.Common.{sym}
use Rattle.kbuild_text.proofs.StatementLaws.{without_lead_no, without_lead_none, without_lead_yes}
use Rattle.kbuild_text.proofs.statements.without_lead.Goals as goal

pub returns-in-None : goal.returns-in-None
returns-in-None c = sym (without_lead_none c.args.front.now c.in-None.ensures.cases)

pub returns-then-leads_equals : goal.returns-then-leads_equals
returns-then-leads_equals c =
    without_lead_yes c.args.front.now c.in-Some.before.now c.in-Some.last.now _ c.in-Some.ensures.cases.0 c.leads_equals.ensures c.if-leads_equals.true

pub returns-else-leads_equals : goal.returns-else-leads_equals
returns-else-leads_equals c =
    without_lead_no c.args.front.now c.in-Some.before.now c.in-Some.last.now _ c.in-Some.ensures.cases.0 c.leads_equals.ensures c.if-leads_equals.false
