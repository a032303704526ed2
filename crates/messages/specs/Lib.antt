pub mod Bounds
pub mod Kinds
pub mod Messages
pub mod Marks
pub mod Equality
pub mod EqualityLaws
pub mod Words
