pub mod MemberRows
pub mod FileShown
pub mod FaultPlaces
pub mod NamesShown
pub mod Lines
pub mod Parsed
pub mod Fronts
