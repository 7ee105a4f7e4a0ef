-- what contracts cite
pub mod Grammar
-- what the readers promise each other
pub mod Reading
pub mod OperandParts
pub mod Scan
