pub mod Ids
pub mod Readings
pub mod Written
pub mod WrittenWeights
