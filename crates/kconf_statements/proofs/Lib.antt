pub mod EnclosingLaws
pub mod FormedLaws
pub mod TableLaws
pub mod PlaceLaws
pub mod SaidLaws
