pub mod Halves
pub mod Limit
pub mod TextGapBuffer
pub mod Splice
pub mod Script
pub mod Segments
pub mod Exchanging
pub mod Changing
