use Rattle.kconf_texts.proofs.OrderLaws.{in_order}
use Rattle.kconf_texts.proofs.laws.lines_are_read_in_order.Goals as goal

pub returns : goal.returns
returns c = in_order
