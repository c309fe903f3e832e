pub mod Octets
pub mod Fields
