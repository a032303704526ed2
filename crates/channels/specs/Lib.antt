pub mod Places
pub mod Frames
pub mod Filter
pub mod Held
pub mod Filters
pub mod Kept
