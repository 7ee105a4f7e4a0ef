use Rattle.worked_rows.proofs.Dependent.{repeated_second, implied_second}
use Rattle.worked_rows.proofs.laws.undead_block.Goals as goal

pub returns-clause-repeated : goal.returns-clause-repeated
returns-clause-repeated c = repeated_second

pub returns-clause-implied : goal.returns-clause-implied
returns-clause-implied c = implied_second
