pub mod Shown
pub mod Naming
pub mod Places
pub use Shown.{EndsLine, IsPrintable, marked, said, shown}
pub use Places.{IsTold, title_of, use_line}
