pub mod DrainGoing
pub mod Ended
pub mod Ends
pub mod Going
pub mod Noting
pub mod Resting
pub mod Stepping
pub mod Tellings
