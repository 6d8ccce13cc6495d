pub mod Alike
pub mod Bounded
pub mod Going
pub mod Replaying
pub mod Finding
