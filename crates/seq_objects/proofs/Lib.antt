pub mod Lengths
pub mod NewestLast
pub mod Windows
