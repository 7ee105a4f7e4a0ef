-- what the contracts of public calls rest on
pub mod Characters
pub mod Splices
pub mod Comments
pub mod LogicalLines
pub mod Words
pub mod Tokens
pub mod Numbers
pub mod Signs
pub mod Depth
pub mod SignsOver
pub mod Operands
pub mod Conditions
pub mod Condition
pub mod Directives
pub mod PieceTexts
-- what functions promise each other
pub mod Cursors
pub mod LineSteps
pub mod Stops
pub mod TokenSteps
pub mod NumberSteps
pub mod OverSteps
pub mod ConditionSteps
pub mod SpanSteps
pub mod Rows
