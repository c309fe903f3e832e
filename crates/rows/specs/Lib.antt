pub mod Place
pub mod Chunks
pub mod Table
