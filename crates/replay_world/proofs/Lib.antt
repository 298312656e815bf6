pub mod Boot
pub mod Numbered
pub mod Pages
pub mod Rising
pub mod Standing
pub mod Ticking
pub mod Zips
