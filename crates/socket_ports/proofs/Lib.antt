pub mod Appending
pub mod Fronts
