pub mod Words
pub mod Readings
pub mod Parts
pub mod Entries
pub mod Journals
pub mod Standing
pub mod JournalReadings
