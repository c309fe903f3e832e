pub mod Providers
pub mod Growth
