pub mod Asked
pub mod Cores
pub mod Keeping
pub mod Opening
pub mod Reloads
pub mod Tables
pub mod Faults
pub mod inner
