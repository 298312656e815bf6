pub mod Boot
pub mod Rows
pub mod Steps
pub mod Numbered
pub mod OpenCalls
