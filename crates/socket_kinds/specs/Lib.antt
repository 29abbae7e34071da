pub mod Accepting
pub mod Answering
pub mod Datagrams
pub mod Doors
pub mod Kinds
pub mod Peers
pub mod Streams
pub use Accepting.{OnBoth, OnCame, OnPeer, OnPort}
pub use Answering.{Answers, IsAccepted, IsReceived, ReaderGave, WriterTook}
pub use Kinds.{AcceptsAt, Connected, HasPartner, Listening, Packets, Sort, SystemSocket, has_left_off, hint_of}
pub use Kinds.{is_door, is_unix_door, sort_of}
pub use Peers.{IsAddress, IsIpv4, IsIpv6, IsPeer}
pub use declared.any_socket.AnySocket.{AnySocket}
