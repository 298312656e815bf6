pub mod Computing
pub mod Drawing
