-- The first form of Kconfig texts, and how its reader answers. This project's rule.
pub mod Form
pub mod BadLine
pub mod File
pub mod Words
pub mod Reading
