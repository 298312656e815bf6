pub mod CallLog
pub mod Count
pub mod MemorySink
pub mod MemorySource
pub mod Told
