pub mod Far
pub mod FreePlaces
