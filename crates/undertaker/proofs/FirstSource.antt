-- Lemmas on the first form of C sources.
pub mod FormLemmas
pub mod BadLineLemmas
