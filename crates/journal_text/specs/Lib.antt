pub mod Fields
pub mod Kinds
pub mod Lines
pub mod Ranges
pub mod Reading
pub mod Sources
pub mod Texts
pub use Ranges.{IsAct}
pub use Sources.{longest_text}
pub use Texts.{IsFirstBadLine, IsTextOf, kept}
