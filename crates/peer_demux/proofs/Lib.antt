pub mod Absorbed
pub mod Given
pub mod Kept
pub mod Places
pub mod SenderLemmas
pub mod Waking
