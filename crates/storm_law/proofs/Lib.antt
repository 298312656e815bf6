pub mod Places
pub mod Counting
pub mod Callers
pub mod Processes
pub mod Deliveries
pub mod Events
pub mod Whole
