mod Holding
pub mod Pieces
pub mod Steps
pub mod Unmoved
pub mod Wanted
