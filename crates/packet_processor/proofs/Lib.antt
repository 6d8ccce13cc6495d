pub mod FirstFailing
pub mod HeldByRule
pub mod QueueingLemmas
pub mod PlaceLemmas
pub mod LeftBehind
pub mod PlaceOrder
mod HeldByPointer
