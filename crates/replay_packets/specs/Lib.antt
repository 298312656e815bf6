pub mod Packet
pub mod Sent
