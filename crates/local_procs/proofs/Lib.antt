pub mod Sending
pub mod Walking
pub mod MembersLeft
pub mod RoundsBegun
pub mod BuilderKind
pub mod Registering
pub mod RegistryKind
pub mod KeptKinds
