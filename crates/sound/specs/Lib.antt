pub mod Marks
pub mod Order
