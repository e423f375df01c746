pub mod Cause
pub mod Config
pub mod ConfigCalls
pub mod Sources
pub mod RecordFormat
pub mod Output
pub mod Storing
