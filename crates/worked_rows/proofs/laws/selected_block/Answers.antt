use Rattle.worked_rows.proofs.Selecting.{backwards_first, backwards_second, forwards_second}
use Rattle.worked_rows.proofs.laws.selected_block.Goals as goal

pub returns-clause-live : goal.returns-clause-live
returns-clause-live c = backwards_first

pub returns-clause-without_selector : goal.returns-clause-without_selector
returns-clause-without_selector c = backwards_second

pub returns-clause-without_selected : goal.returns-clause-without_selected
returns-clause-without_selected c = forwards_second
