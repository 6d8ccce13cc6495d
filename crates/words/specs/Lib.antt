pub mod Lines
pub mod Numbers
pub mod Bytes
pub mod Packets
pub mod Items
pub mod Names
pub mod Errors
pub mod inner
