pub mod ArgumentsByNumbers
pub mod AskedNext
pub mod Conversions
pub mod DecidedNodes
pub mod NumberedTypes
pub mod RenamedVariables
pub mod SameNumbers
pub mod SignatureLaws
