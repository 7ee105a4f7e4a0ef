pub mod AddingLaws
pub mod GoalLaws
pub mod NamingLaws
pub mod WayLaws
pub mod OverLaws
pub mod CondLaws
pub mod WorkedRows
