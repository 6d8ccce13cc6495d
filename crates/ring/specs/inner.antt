-- What loops and lemmas alone speak of: how far a packet's words have come.
pub mod Halfway
