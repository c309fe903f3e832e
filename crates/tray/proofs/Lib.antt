pub mod Laws
pub mod Downloads
pub mod Worked
