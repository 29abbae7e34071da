pub mod AmongOthers
pub mod Beginnings
pub mod SessionSets
pub mod Laws
pub mod OneSession
pub mod Wholes
pub mod Works
pub use SessionSets.{IsSaid, MaySay, Sleeper, Waker, Woke}
pub use Works.{MustAct}
