pub mod Places
pub mod Selects
pub mod Classing
pub mod Turns
