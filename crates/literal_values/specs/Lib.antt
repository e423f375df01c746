pub mod Floating
pub mod Literals
pub mod NumeralParts
pub mod Numerals
pub mod Quoted
pub mod QuotedParts
