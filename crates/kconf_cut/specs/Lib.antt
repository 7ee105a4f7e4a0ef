-- what contracts cite
pub mod Words
pub mod Laws
-- what the readers promise each other
pub mod Reading
pub mod ValueMap
