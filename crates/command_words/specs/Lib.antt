pub mod Faults
pub mod Parsed
pub mod Spellings
pub mod Words
