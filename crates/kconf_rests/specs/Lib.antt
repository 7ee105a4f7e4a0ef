-- what contracts cite
pub mod Rests
-- what the readers promise each other
pub mod Reading
