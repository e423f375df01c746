pub mod Held
pub mod MemberTypes
pub mod PackageTypes
pub mod TableElements
pub mod TypeCounts
pub mod TypeTable
pub mod UnitNames
