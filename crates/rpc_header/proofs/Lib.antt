pub mod CallNumbers
pub mod Ranges
pub mod Faults
pub mod Bytes
pub mod Spelled
pub mod ReadBack
pub mod Written
pub mod SpellingBytes
