-- The crate's laws.
pub mod Choices
pub mod Fitting
pub mod Clauses
pub mod Created
