pub mod Drawn
pub mod Pictured
pub mod Dumped
pub mod Lines
pub mod Faults
