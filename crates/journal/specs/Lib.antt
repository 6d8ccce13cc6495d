pub mod Words
pub mod Entries
pub mod Readings
pub mod Lines
