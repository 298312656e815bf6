pub mod Names
pub mod Outcome
pub mod Scanning
pub mod Stored
pub mod Syntax
pub mod Tokens
