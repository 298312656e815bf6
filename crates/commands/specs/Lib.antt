pub mod Outside
pub mod PlanText
pub mod Replay
pub mod Rounds
pub mod Status
pub mod Storm
pub mod Stubs
