pub mod Size
pub mod Codec
