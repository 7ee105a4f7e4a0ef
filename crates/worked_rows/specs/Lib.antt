pub mod Texts
pub mod Problems
