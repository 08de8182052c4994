pub mod Prefixes
pub mod Sublists
pub mod PageSteps
pub mod BookLaws
pub mod Legal
