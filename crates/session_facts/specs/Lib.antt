pub mod Owings
