pub mod SameUnder
