pub mod Halves
pub mod Scanning
pub mod Soundness
pub mod Keeping
