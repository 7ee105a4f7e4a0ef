mod GraphLaws
mod WalkLaws
mod StepLaws
mod LayerLaws
mod RisingLaws
mod LeavingLaws
pub mod ReturnLaws
pub mod SettleLaws
