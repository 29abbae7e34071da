pub mod Accepting
pub mod Crowds
pub mod Links
pub mod Pollers
pub mod Ports
pub mod Removals
pub mod Sockets
pub use Accepting.{IsFreshPort}
pub use Ports.{PeerState, fresh_peer_port}
pub use Removals.{IsRemoval}
pub use Sockets.{SocketPortState, fresh_port, no_counts}
