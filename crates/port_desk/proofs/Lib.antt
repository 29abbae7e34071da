pub mod CallLemmas
pub mod FollowCalled
pub mod FollowLemmas
pub mod FollowSteps
pub mod OpenLemmas
pub mod PollLemmas
pub mod RowLemmas
pub mod Unheld
