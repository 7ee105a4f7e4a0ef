-- what contracts cite
pub mod Cut
pub mod Lines
pub mod HelpTexts
pub mod LogicalLines
pub mod Laws
-- what the readers promise each other
pub mod Reading
