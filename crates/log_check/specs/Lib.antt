pub mod Resolution
pub mod Derivations
pub mod DerivationText
pub mod Merging
pub mod Verdicts
pub mod Reading
pub mod Lent
