pub mod Names
pub mod Filing
pub mod Held
pub mod Origins
pub mod Orders
pub mod Reports
