pub mod Scanned
pub mod Spelling
pub mod Storing
