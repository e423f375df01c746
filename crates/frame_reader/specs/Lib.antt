pub mod Nodes
pub mod Rests
pub mod Steps
pub mod Stands
pub mod Follows
pub mod Stages
