pub mod Errors
pub mod Names
pub mod Texts
pub mod Folders
