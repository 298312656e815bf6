pub mod Arrivals
pub mod Frames
pub mod LongTexts
