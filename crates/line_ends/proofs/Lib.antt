pub mod Appended
pub mod Searched
pub mod Unchanged
