mod ExprLaws
mod Steps
pub mod Places
mod Groups
mod TypeLaws
mod SymbolLaws
mod ChoiceLaws
mod NameLaws
mod TreeLaws
pub mod Bounds
mod LinkLaws
mod GraphOf
mod BuildLaws
pub mod Small
pub mod ValueLaws
pub mod RightLaws
pub mod RightChoices
pub mod LookLaws
pub mod SameIn
pub mod SmallLaws
pub mod GraphOrders
pub mod MadeLaws
mod OrderNodes
pub mod ReferenceLaws
mod Words
mod FeedLaws
mod Rising
mod SetLaws
