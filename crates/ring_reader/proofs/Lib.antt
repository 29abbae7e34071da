pub mod Feedings
pub mod Readings
