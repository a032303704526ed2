pub mod Nonzero
pub mod Same
pub mod RoundTrip
