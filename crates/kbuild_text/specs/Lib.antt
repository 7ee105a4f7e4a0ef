pub mod Lines
pub mod Marks
pub mod Words
pub mod Statements
pub mod Variables
pub mod Goals
pub mod Chains
pub mod Listings
