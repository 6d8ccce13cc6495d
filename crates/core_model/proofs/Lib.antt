pub mod More
pub mod States
mod Sameness
mod Alike
pub mod Meeting
pub mod Legality
pub mod Lists
pub mod Openings
pub mod Launches
pub mod Entered
pub mod Closing
pub mod Flying
pub mod Handed
pub mod Launching
pub mod Holding
pub mod Behind
pub mod Viewing
pub mod Changes
pub mod Absent
pub mod Apart
pub mod ClosedLaw
pub mod Turns
pub mod TakenIds
pub mod Seeing
pub mod ServedLaw
pub mod FlightLaw
pub mod Room
mod Allowed
mod Denied
mod Working
pub mod Declared
