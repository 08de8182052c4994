pub mod Headers
pub mod FreeWords
