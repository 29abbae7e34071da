pub mod Timelines
pub mod Elements
pub mod Pictures
pub mod Views
pub mod Shown
pub mod Runs
