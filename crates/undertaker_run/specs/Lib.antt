-- what the contract of the top call rests on
pub mod Status
pub mod Refusals
pub mod Orders
pub mod Errors
pub mod Texts
pub mod Jobs
pub mod Work
pub mod Ends
pub mod Run
pub mod Laws
-- the words of inner functions
pub mod Inner
