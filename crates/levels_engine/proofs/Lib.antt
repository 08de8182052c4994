pub mod Drawn
pub mod Frontiers
pub mod Marking
pub mod Walks
