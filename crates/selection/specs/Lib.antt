pub mod Pass
pub mod Classes
