pub mod Backlogs
pub mod Flows
pub mod StreamStores
pub use Flows.{Flowing, IsFlow, room_in}
pub use declared.lanes.Lane.{Lane}
