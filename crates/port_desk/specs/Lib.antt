pub mod Calls
pub mod Desks
pub mod Following
pub mod Keeping
pub mod Models
pub mod Records
pub mod Whole
pub use Following.{Passed, PassedBy, StartsInStep, reads_input, stream_of, writes_output}
pub use Models.{AreUnused, BeginsHistory, HasPassed, IsFree, start_of}
