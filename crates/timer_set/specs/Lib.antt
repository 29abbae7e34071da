pub mod Heaps
pub mod Moments
pub mod Order
pub mod Timers
