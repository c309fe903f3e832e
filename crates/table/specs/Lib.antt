pub mod Find
pub mod Survey
pub mod Change
