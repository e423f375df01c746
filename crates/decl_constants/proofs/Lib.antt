pub mod Parts
pub mod Pairs
pub mod ConstantFirsts
pub mod ChainReads
