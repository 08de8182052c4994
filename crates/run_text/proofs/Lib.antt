pub mod Readings
pub mod CheckedRuns
mod WrittenSteps
mod WrittenRuns
