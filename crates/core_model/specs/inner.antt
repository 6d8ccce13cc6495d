-- What private clauses and proofs speak of.
pub mod Bytes
pub mod Effects
pub mod Entries
