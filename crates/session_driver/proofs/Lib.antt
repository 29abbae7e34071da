pub mod Counting
pub mod Doors
pub mod Hearing
pub mod Noting
pub mod Owning
pub mod Reading
pub mod Sizes
