pub mod Lookups
pub mod Invariant
pub mod Written
pub mod Parts
pub mod Laws
pub mod Placing
pub mod Copies
