pub mod Lists
pub mod Moves
pub mod Pieces
pub mod Places
pub mod Sounds
pub mod Tables
