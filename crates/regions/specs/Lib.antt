pub mod Memory
pub mod Place
pub mod Faults
