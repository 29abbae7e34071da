pub mod Access
pub mod Halves
pub mod Inputs
pub mod Opened
pub mod Streams
pub mod Waiting
pub use Access.{reads_by, writes_by}
pub use Halves.{AreOf, HalvesState}
pub use Opened.{OnMade, file_named}
pub use declared.stream.FileStream.{FileStream}
