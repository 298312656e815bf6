pub mod Entry
pub mod GoesOn
pub mod Lives
pub mod Rules
pub mod Service
pub mod Stepped
pub mod Texts
pub mod Worker
