pub mod Admits
pub mod Scans
pub mod Counted
pub mod Meant
pub mod Carries
