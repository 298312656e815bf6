pub mod Padding
pub mod Places
pub mod Kept
pub mod Calls
pub mod Data
pub mod Judging
pub mod Changes
pub mod LookingUp
