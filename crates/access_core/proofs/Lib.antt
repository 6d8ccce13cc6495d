pub mod Terms
pub mod Seen
pub mod CachedMore
pub mod Calls
pub mod QueueLemmas
pub mod TakeLemmas
pub mod LaunchLemmas
pub mod GroupLemmas
pub mod HeldOn
pub mod Looking
pub mod Marking
pub mod QueueAt
pub mod Numbered
pub mod ChangedQueue
pub mod Places
pub mod Ascending
pub mod Laid
pub mod ReadyLemmas
pub mod Lying
pub mod InOrder
pub mod FirstOf
pub mod GivenLemmas
pub mod PollLemmas
pub mod StopLemmas
pub mod CloseLemmas
pub mod Rooms
pub mod AskingLemmas
pub mod WorkLemmas
pub mod NamedOnce
pub mod WorkReadLemmas
pub mod RunLemmas
pub mod KernelLemmas
pub mod LendingLemmas
pub mod GroupRuns
pub mod LayingLemmas
pub mod HostMemory
pub mod HeldRights
pub mod HeldAfter
pub mod Standing
pub mod Granting
pub mod Listing
pub mod ReloadLemmas
pub mod Least
pub mod Opened
pub mod Rotated
mod Rotating
mod MovingLemmas
mod FewInFlight
mod Retelling
mod TellingAgain
mod Truncated
pub mod PolicyRows
