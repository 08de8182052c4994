pub mod Chosen
pub mod Collected
pub mod Counts
