pub mod DigitsLemmas
pub mod LiteralsLemmas
