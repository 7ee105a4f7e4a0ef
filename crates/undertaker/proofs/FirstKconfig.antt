-- Lemmas on the first form of Kconfig texts.
pub mod LinesLemmas
pub mod FormLemmas
pub mod FileLemmas
pub mod BadLineLemmas
