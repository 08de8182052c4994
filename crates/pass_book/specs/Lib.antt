pub mod Histories
pub mod Pages
pub mod Laws
