pub mod Entries
pub mod Tied
pub mod Seats
pub mod Places
pub mod Sizes
pub mod Kept
pub mod States
pub mod Own
pub mod Publication
pub mod Opened
pub mod Gathering
pub mod Turning
mod Walks
