pub mod Folded
pub mod Held
pub mod Words
