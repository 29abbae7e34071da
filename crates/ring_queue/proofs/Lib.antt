pub mod ItemLists
pub mod Moves
pub mod Rises
