pub mod AddedLaws
pub mod TextLaws
pub mod TreeLaws
