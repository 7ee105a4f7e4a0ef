pub mod Grammar
pub mod Lines
pub mod Cursor
pub mod Tail
