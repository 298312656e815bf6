pub mod Told
pub mod Task
pub mod Sound
pub mod Client
