pub mod Action
pub mod State
