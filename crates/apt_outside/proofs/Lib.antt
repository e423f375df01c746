pub mod HeldLemmas
pub mod PlanLemmas
pub mod Window
pub mod Live
pub mod ChildLemmas
pub mod Joined
