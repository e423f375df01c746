pub mod PartFirsts
pub mod RowTurns
pub mod RowItems
pub mod ValueEnds
pub mod StepsSmaller
pub mod FieldItems
pub mod ConstantReads
pub mod Measures
