pub mod Asked
pub mod Failures
pub mod Lists
pub mod Named
pub mod Numbers
pub mod Own
