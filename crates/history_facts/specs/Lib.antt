pub mod Pasts
pub mod Tables
pub mod Told
pub use Pasts.{Chronicle, acts}
pub use Tables.{numbered, placed}
pub use declared.numbered.Numbered.{Numbered}
pub use declared.placed.Placed.{Placed}
