pub mod Comments
pub mod Sizes
pub mod Blocks
pub mod Packets
pub mod Verbs
pub mod Writes
