pub mod Packed
pub mod Places
pub mod Search
pub mod Line
