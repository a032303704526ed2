pub mod Heads
pub mod Parts
pub mod Frames
pub mod Accepts
