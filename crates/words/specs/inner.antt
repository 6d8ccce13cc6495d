-- What private clauses and proofs speak of.
pub mod Lanes
