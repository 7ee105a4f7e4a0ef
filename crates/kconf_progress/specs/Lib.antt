-- what contracts cite
pub mod Progress
-- what the steps promise each other
pub mod Conditions
pub mod Known
pub mod OpenEntries
pub mod Openers
pub mod Kept
