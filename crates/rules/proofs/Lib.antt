pub mod Ruled
pub mod Deciding
