pub mod OneMark
pub mod Zeros
pub mod Fitting
pub mod Flat
pub mod RoundTrip
pub mod Held
