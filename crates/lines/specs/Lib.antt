pub mod Lines
pub mod Pairs
