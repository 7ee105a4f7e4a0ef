pub mod Closed
pub mod Named
pub mod Found
pub mod Met
