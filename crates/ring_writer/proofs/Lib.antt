pub mod BackLemmas
pub mod Delivery
pub mod Putting
pub mod Servings
pub mod Taking
pub mod Truth
