pub mod Untold
pub mod Wants
