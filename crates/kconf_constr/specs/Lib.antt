-- what public contracts rest on
pub mod Scope
pub mod Levels
pub mod PropertyFormulas
pub mod SymbolFormulas
pub mod ChoiceFormulas
pub mod FactsOf
pub mod Stands
pub mod Meaning
pub mod Closed
pub mod Standing
pub mod Depth
pub mod Folded
