pub mod Hubs
pub mod Links
pub mod Rows
pub mod Stories
pub mod Tables
pub use Hubs.{AcceptsRow, HubState, ReadsRow, TakesPackets}
pub use Links.{IsFit, Packet, Receives, Sends, has_failed, has_packet, has_stalled, send_failed, send_stalled}
pub use Tables.{IsLive, IsTrimmed, RowStands, TableState, risen_if, row_at}
pub use declared.links.Received.{Received}
pub use declared.hubs.RowPeer.{RowPeer}
