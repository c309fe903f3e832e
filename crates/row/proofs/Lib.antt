pub mod Layouts
pub mod Rooms
pub mod Packs
pub mod Examples
