pub mod Below
pub mod Owed
