pub mod GrammarLaws
pub mod ScanLaws
pub mod ReaderLaws
