pub mod Sheet
pub mod Report
pub mod Words
