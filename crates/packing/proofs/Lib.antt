pub mod Spans
pub mod Inverse
pub mod Worked
