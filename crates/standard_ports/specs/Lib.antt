pub mod Errors
pub mod Openings
pub mod Ports
pub mod Told
