pub mod Limits
pub mod Versions
pub mod Fields
pub mod Spelling
pub mod Reading
