pub mod Replays
pub mod Verdicts
pub mod inner
