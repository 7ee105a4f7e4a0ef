pub mod GrammarLaws
pub mod LineLaws
pub mod ListTexts
pub mod NameLaws
pub mod PlainLaws
pub mod QuotedTexts
pub mod TailLaws
