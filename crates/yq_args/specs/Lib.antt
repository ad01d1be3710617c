pub mod Asked
pub mod JournalNames
pub mod OtherJournal
pub mod Line
pub mod Setting
pub mod CommandWords
pub mod Named
