pub mod ChoiceLaws
pub mod RemovingLaws
