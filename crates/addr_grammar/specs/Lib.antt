pub mod Addresses
pub mod Grammar
pub mod Printing
pub mod Spelling
pub mod FirstFaults
pub use Addresses.{Named, Parts, is_empty, named}
pub use Grammar.{reading, ◌>>=◌}
pub use FirstFaults.{IsFaultOf}
pub use declared.faults.GrammarFault.{GrammarFault}
pub use declared.addresses.RawAddress.{RawAddress}
