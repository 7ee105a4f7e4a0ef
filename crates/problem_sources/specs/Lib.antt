-- what public contracts rest on
pub mod Grounds
-- what functions promise each other inside
pub mod Named
pub mod Counted
pub mod Outers
pub mod Undeclared
