pub mod Chunks
pub mod Lines
pub mod Told
