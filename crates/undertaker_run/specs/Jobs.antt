pub mod Golem
