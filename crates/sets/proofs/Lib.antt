-- The crate's laws.
pub mod Everys
pub mod Waiting
