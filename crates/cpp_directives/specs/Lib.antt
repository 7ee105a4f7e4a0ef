-- what holds of the directives of every source
pub mod Limits
pub mod Chains
pub mod WellFormed
-- why a source is refused, and the names in its pieces
pub mod Refusals
pub mod Quotes
pub mod PieceNames
-- what functions promise each other
pub mod Stack
