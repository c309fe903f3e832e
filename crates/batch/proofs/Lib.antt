-- The crate's laws.
pub mod Turns
pub mod Loops
pub mod Refusing
pub mod Theorems
