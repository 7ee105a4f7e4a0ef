pub mod Errors
pub mod Folders
pub mod Jobs
pub mod Sources
