pub mod NameLaws
pub mod TextLaws
pub mod FolderLaws
pub mod ReadLaws
