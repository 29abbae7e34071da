pub mod Errors
pub mod Inputs
