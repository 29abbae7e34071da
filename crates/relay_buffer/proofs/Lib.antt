pub mod BacklogLemmas
pub mod EscapeLemmas
pub mod FlowLemmas
pub mod RoomLemmas
pub mod StoreLemmas
