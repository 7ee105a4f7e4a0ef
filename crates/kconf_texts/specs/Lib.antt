-- what contracts cite
pub mod Errors
pub mod Texts
pub mod Laws
pub mod Formed
-- words of the worked texts
pub mod Worked
