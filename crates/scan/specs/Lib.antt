pub mod Join
pub mod Sound
pub mod Carried
