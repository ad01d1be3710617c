pub mod AsciiLaws
mod ContentRuns
pub mod DistinctKeys
pub mod IntegerLaws
pub mod LoopLaws
pub mod SameContentLaws
mod LineWords
mod WordLaws
mod QuotedLines
