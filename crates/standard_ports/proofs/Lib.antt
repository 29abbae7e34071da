pub mod FirstBytes
pub mod Tellings
