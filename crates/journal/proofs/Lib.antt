mod WordSteps
mod WordLaws
mod Ranges
mod Spelled
mod Times
mod EntryLaws
mod ReadBack
mod LineLaws
