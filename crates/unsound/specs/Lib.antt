pub mod Unsound
