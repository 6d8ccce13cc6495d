pub mod Judging
pub mod Rows
pub mod Entries
pub mod Reading
