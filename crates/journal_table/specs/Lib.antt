pub mod Visits
pub mod Told
pub mod Rows
pub mod Streams
pub mod Cells
pub mod Tables
pub mod Acts
pub use Streams.{dumped}
pub use Cells.{moment_text, to_left, to_right}
pub use Tables.{TableTold, peers_cell, why_cell}
pub use Acts.{acts_text}
