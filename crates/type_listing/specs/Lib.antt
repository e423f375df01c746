pub mod Displacing
pub mod Listings
pub mod MemberLaws
pub mod Members
pub mod Namesakes
pub mod Remembered
pub use Rattle.type_overriding.specs.Overrides
