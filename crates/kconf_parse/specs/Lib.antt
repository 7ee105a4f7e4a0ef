-- what the readers promise each other
pub mod Reading
