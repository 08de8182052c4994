pub mod BagSteps
pub mod DequeSteps
mod DoubleEnded
pub mod ListSteps
pub mod Meanings
