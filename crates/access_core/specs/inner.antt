-- What private clauses speak of: what is cached beside the history, how it changes, and what is decided by it.
pub mod Given
pub mod ArgumentBlocks
pub mod CachedQueue
pub mod Numbers
pub mod Closing
pub mod QueueChanges
pub mod LiesInRegions
pub mod Deciding
pub mod Cached
pub mod InPlace
pub mod Polling
pub mod Running
pub mod Laying
pub mod Untouched
pub mod Origins
pub mod MovingOn
pub mod Ready
