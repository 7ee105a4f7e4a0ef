pub mod NameTexts
pub mod LinesLemmas
mod LineSizeLemmas
pub mod DecimalLaws
