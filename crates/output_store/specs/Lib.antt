pub mod Cause
pub mod Output
pub mod Reading
pub mod Cleaning
pub mod Publishing
pub mod Exporting
pub mod Origins
