pub mod Lists
pub mod Seating
pub mod OwnSteps
pub mod NoteSteps
pub mod OpenSteps
pub mod CloseSteps
pub mod Going
pub mod LooksBack
