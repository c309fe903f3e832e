pub mod Codec
pub mod Theorems
