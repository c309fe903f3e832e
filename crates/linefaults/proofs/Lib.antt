pub mod Rivals
pub mod Verdict
