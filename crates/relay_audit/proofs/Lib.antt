pub mod Counts
pub mod Holding
pub mod Implied
pub mod Judged
pub mod Lists
pub mod OneVerdict
pub mod Pieces
pub mod Streams
