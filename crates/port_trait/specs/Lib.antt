pub mod Calls
pub mod Counted
pub mod Counting
pub mod Direct
pub mod Hinting
pub mod Keys
pub mod Made
pub mod Makers
pub mod Meanings
pub mod Passages
pub mod Ports
pub mod Serving
pub mod Streams
pub mod Tasks
pub use Counted.{counted, risen}
pub use Counting.{Fault, Grew, Rose, Tallied}
pub use Direct.{no_counts, with_fault}
pub use Hinting.{IsWithin, all_hints, no_hint}
pub use Keys.{KeysListed}
pub use Made.{IsAtOnce, came_after, making_failed, making_stalled, peer_failed, peer_stalled}
pub use Makers.{LetsIn, Listens, MakerSeen, Opens}
pub use Meanings.{Accepts, AcceptsAll, AcceptsWhole, Adds, Behind, Gives, IsFront, OnJoined, begin_event, begun_after}
pub use Meanings.{emptied, is_end, join_answer, noted, read_event, settle_event, shut_event, write_event}
pub use Passages.{Passage, none_passed}
pub use Ports.{Agrees, Begins, BehindSeen, HintsSo, JoinsSo, MayHint, MovesNothing, PortSeen, PutsAll, Reads, Reaps}
pub use Ports.{Sends, Settles, Shuts, StandsBegun, Writes, nothing_behind, untold}
pub use Serving.{rise}
pub use Streams.{Loses, ReaderGives, SinkTakes, SourceGives, WriterTakes, finishes, sink_failed, source_ended}
pub use Streams.{source_failed}
pub use declared.makers.AskedPlace.{AskedPlace}
pub use declared.answers.Begun.{Begun}
pub use declared.answers.Got.{Got}
pub use declared.answers.Hint.{Hint}
pub use declared.answers.Joining.{Joining}
pub use declared.makers.MadePeer.{MadePeer}
pub use declared.makers.Making.{Making}
pub use declared.pollers.Polled.{Polled}
pub use declared.counts.PortCounts.{PortCounts}
pub use declared.answers.PortReap.{PortReap}
pub use declared.answers.Settled.{Settled}
pub use declared.answers.Shutting.{Shutting}
pub use declared.answers.SinkTook.{SinkTook}
pub use declared.answers.SourceGot.{SourceGot}
pub use declared.spawning.Task.{Task}
pub use declared.answers.Took.{Took}
