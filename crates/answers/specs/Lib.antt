pub mod Waits
pub mod Octals
