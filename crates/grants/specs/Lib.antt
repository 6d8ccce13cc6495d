pub mod Pairs
pub mod Holders
pub mod Holds
pub mod Cells
pub mod Ledger
pub mod Laws
pub mod Refusals
pub mod inner
