pub mod SourceLaws
