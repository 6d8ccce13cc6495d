pub mod Packets
pub mod Plain
pub mod Walks
