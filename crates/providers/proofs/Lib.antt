pub mod MarksLaws
pub mod Laws
