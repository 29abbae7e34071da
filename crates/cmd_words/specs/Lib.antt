pub mod Commands
pub mod Flags
pub mod Blames
pub use Commands.{IsFit, MakesNoRelay, command}
pub use declared.commands.Command.{Command}
pub use declared.faults.CommandFault.{CommandFault}
