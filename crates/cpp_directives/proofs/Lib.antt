pub mod RefusalLaws
pub mod StackLaws
pub mod PieceNamesLaws
pub mod ChainLaws
