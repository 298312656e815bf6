pub mod Adding
pub mod Outcomes
pub mod Rows
pub mod Served
