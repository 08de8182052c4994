pub mod Updates
mod Timing
mod TimingMoves
pub mod Lists
mod Locations
mod Paths
mod Links
mod Ages
mod Looks
mod Sound
mod KeepsTokens
mod Moves
mod KeepsTakes
pub mod Words
mod KeepsDeferrals
mod KeepsReclaims
pub mod Segments
mod KeepsStacks
mod KeepsHomes
mod Opening
mod SoundSteps
pub mod SoundRuns
mod Told
mod Tells
mod TellsTokens
mod TellsObjects
pub mod Theorem
mod Elections
mod Holds
pub mod Owners
pub mod Accounts
pub mod Counts
mod KeepsCounts
mod ReleaseCounts
pub mod Onward
pub mod ChainWords
pub mod Frames
pub mod ReleasedOnce
