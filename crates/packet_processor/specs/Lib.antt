pub mod Asked
pub mod Judged
pub mod Holding
pub mod Queueing
pub mod inner
