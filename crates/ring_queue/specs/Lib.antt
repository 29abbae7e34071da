pub mod Endings
pub mod Items
pub mod Order
pub mod Stores
pub mod Tallies
pub mod Words
pub use Endings.{OnDone}
pub use Items.{AddsChunks, Follows, bytes_of, end_marks, fault_marks, is_end_mark, is_mark, item_bytes, last_is, marks}
pub use Items.{told}
pub use Order.{HasTaken, IsSound, view_of}
pub use Stores.{Within, rest_of}
pub use Tallies.{IsTallied, RoseTimes, no_tally, with_misuse}
pub use Words.{asks}
pub use declared.lines.Lines.{Lines}
pub use declared.roles.PassView.{PassView}
pub use declared.items.RingItem.{RingItem}
pub use declared.tallies.RingTally.{RingTally}
pub use declared.words.SinkFault.{SinkFault}
pub use declared.ending.ThreadEnding.{ThreadEnding}
pub use declared.words.Word.{Word}
