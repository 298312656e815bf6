pub mod Reduced
pub mod Sums
mod Chunks
mod LaneSums
