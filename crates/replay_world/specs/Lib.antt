pub mod Delivery
pub mod Kept
pub mod Played
pub mod Stands
pub mod Stored
