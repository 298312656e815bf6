pub mod Names
pub mod Padded
pub mod Same
pub mod Interfaces
pub mod Exports
pub mod Sound
pub mod History
pub mod Index
