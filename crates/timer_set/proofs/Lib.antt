pub mod Heaps
pub mod Kept
pub mod Told
