-- The first form of C sources, and how its reader answers. This project's rule.
pub mod Form
pub mod BadLine
pub mod Reading
