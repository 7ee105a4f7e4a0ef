pub mod WordLaws
pub mod LineLaws
pub mod ChainLaws
pub mod StatementLaws
pub mod ListingLaws
pub mod WorkedRows
