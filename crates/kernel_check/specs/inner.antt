-- What private clauses and proofs speak of.
pub mod Bound
pub mod Judged
pub mod Laid
pub mod Bodies
