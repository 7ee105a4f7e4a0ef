use Rattle.ut_logic.proofs.MentionLaws.{truth-agree}
use Rattle.ut_logic.proofs.laws.truth_rests_on_mentioned_items.Goals as goal

pub returns : goal.returns
returns c = truth-agree
