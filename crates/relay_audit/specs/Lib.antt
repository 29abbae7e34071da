pub mod Judging
pub mod Pasts
pub mod Reports
pub mod Verdicts
