pub mod Digits
pub mod Order
