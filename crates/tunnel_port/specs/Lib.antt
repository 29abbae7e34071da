pub mod ConnectReplies
pub mod ConnectRequests
pub mod SocksReplies
pub mod SocksRequests
pub mod Talks
pub mod Tunnels
pub use ConnectReplies.{ConnectState}
pub use ConnectRequests.{connect_request}
pub use SocksRequests.{socks4, socks4a}
pub use Talks.{IsOnly}
pub use Tunnels.{TunnelState}
