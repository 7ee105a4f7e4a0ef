-- what contracts cite
pub mod ReadEntries
pub mod Flat
pub mod Nesting
pub mod Names
