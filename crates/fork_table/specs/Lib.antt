pub mod Lends
pub mod Tables
pub use Tables.{HasRoom, IsFirstLive, SameBounds, Table, row_of}
