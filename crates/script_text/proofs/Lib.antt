pub mod Comes
pub mod Makeable
pub mod Pushed
pub mod Readings
pub mod RoundTrips
pub mod Validity
pub mod WrittenLines
