pub mod KindLaws
pub mod WalkLaws
mod RestLaws
pub mod BorrowedChildren
