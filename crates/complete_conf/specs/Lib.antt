-- what public contracts rest on
pub mod Config
pub mod Free
pub mod Parts
pub mod Completion
pub mod Text
-- the words of inner functions
pub mod Inner
