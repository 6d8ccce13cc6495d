pub mod Gatherings
pub mod Kept
pub mod Nothing
pub mod Openings
pub mod Partings
pub mod Rooms
pub mod SettledEnds
pub mod Turns
