pub mod SplicesLemmas
pub mod LogicalLinesLemmas
pub mod StopsLemmas
pub mod TokensLemmas
pub mod NumberLemmas
pub mod DepthLemmas
pub mod ConditionLaws
pub mod FormedLaws
pub mod DirectivesLemmas
pub mod PieceTextLaws
pub mod RowLaws
mod NestLaws
