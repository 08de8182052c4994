pub mod Shapes
pub mod Pointers
pub mod Starts
