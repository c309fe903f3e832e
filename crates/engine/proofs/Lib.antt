pub mod Posting
pub mod Deciding
pub mod Stepping
pub mod Bytewise
pub mod Keeping
pub mod Exactly
pub mod Mail
pub mod Theorems
