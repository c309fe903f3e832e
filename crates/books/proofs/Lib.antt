pub mod Filters
pub mod Naming
pub mod Worked
pub mod Given
pub mod Places
pub mod Search
