pub mod Commands
pub mod Programs
pub use Programs.{runs_program}
