pub mod ConstantNames
pub mod DefaultLists
pub mod ElementLemmas
pub mod JoinedTexts
pub mod PlacedCarried
pub mod ValueParts
