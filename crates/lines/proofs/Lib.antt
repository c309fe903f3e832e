pub mod Meaning
pub mod Walks
pub mod Heads
pub mod Passes
pub mod Abreast
pub mod Twos
pub mod Together
pub mod Turns
