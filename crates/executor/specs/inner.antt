-- What private clauses and proofs speak of.
pub mod Extended
pub mod Pages
pub mod Places
pub mod Told
pub mod Outcomes
pub mod Room
pub mod Held
pub mod Turns
pub mod Flat
pub mod Stops
pub mod ItemRuns
pub mod Words
pub mod Whole
pub mod Few
pub mod Rows
pub mod Found
