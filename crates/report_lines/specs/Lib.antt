-- what public contracts rest on
pub mod Reading
pub mod Shown
pub mod Verdicts
-- what functions promise each other inside
pub mod Inside
