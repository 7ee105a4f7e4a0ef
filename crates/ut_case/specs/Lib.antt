-- problems and their numbers
pub mod Problem
pub mod Names
pub mod Numbering
-- cases, and when a block is on
pub mod Cases
pub mod Built
pub mod Starts
pub mod On
pub mod Items
pub mod Environments
pub mod Wholes
-- questions and verdicts
pub mod Questions
pub mod Verdicts
pub mod Words
-- formulas, clauses and least cases
pub mod StartFormulas
pub mod BuiltFormulas
pub mod Facts
pub mod Needs
pub mod ClauseForms
pub mod Least
-- laws that rest on these
pub mod Posed
pub mod Laws
pub mod Others
