pub mod Results
pub mod Seen
pub mod Hands
pub mod Least
pub mod Bytes
