pub mod Halves
pub mod Joined
pub mod Ranges
pub mod Steals
