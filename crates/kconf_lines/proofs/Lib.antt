pub mod CutLaws
pub mod LineLemmas
pub mod LineLaws
