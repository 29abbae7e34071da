pub mod Printing
pub mod Growing
pub mod Telling
