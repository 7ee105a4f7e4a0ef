-- what the contracts of public calls rest on
pub mod Spelled
pub mod Values
pub mod Options
pub mod Said
pub mod Jobs
pub mod Words
pub mod Lists
-- the words of inner functions
pub mod Command
pub mod Reading
