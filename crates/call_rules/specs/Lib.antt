pub mod Caller
pub mod Entry
pub mod Examples
pub mod Packet
pub mod Worker
