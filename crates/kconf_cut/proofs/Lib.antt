pub mod CallLemmas
pub mod PartLemmas
pub mod WordLemmas
pub mod BackLaws
