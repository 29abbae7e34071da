pub mod Begins
pub mod Few
pub mod Below
pub mod Growing
