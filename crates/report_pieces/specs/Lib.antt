-- what public contracts rest on
pub mod Blocks
-- what functions promise each other inside
pub mod Arranging
