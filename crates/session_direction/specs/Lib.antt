pub mod Directions
pub mod States
pub mod Touches
pub use Directions.{IsDirection, WantsNothing, listed}
pub use States.{can_read, can_write, read_price, write_price, steps_in}
pub use Touches.{touches}
