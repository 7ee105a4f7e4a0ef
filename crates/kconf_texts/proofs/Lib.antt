pub mod AcceptedLaws
pub mod Computing
pub mod OrderLaws
