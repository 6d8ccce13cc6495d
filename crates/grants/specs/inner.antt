-- What private clauses speak of: the counts beside the rights, the holds of one packet, and what a policy takes.
pub mod Counts
pub mod PacketHolds
pub mod Reloading
pub mod Comparing
pub mod Weighing
