pub mod ActLemmas
pub mod ByteLemmas
pub mod FieldLemmas
pub mod LoopLemmas
pub mod NumberLemmas
pub mod PlaceLemmas
pub mod TextLemmas
pub mod WritingLemmas
