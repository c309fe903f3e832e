pub mod Arrive
pub mod Shifts
