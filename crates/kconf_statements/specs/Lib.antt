-- what lines say one after another
pub mod EntryLines
pub mod Enclosing
pub mod Entries
pub mod Standing
pub mod Statements
-- what contracts cite beside it
pub mod Says
pub mod Laws
-- what the readers promise each other
pub mod Reading
