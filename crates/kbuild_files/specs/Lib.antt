pub mod Tables
pub mod Golem
