pub mod Arrivals
pub mod Packets
