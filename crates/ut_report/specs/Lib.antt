pub mod Lines
pub mod Groups
pub mod Evidence
pub mod Report
