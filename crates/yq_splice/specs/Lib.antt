pub mod Answers
pub mod Session
pub mod TouchedLines
pub mod Parts
pub mod Others
pub mod Updates
