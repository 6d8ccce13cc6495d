pub mod Numbers
pub mod Kinds
pub mod Layout
pub mod Reading
pub mod Ring
pub mod Memory
pub mod Ids
pub mod Words
