pub mod Drift
pub mod Course
