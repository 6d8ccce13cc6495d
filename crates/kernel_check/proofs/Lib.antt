pub mod NameLemmas
pub mod Walks
pub mod LabelLemmas
pub mod CheckLemmas
pub mod BlockLemmas
pub mod BodyLemmas
mod StepCases
mod FlatLemmas
mod LayoutLemmas
pub mod SoundLemmas
pub mod DoneLemmas
pub mod ModuleLemmas
pub mod LawLemmas
mod OrderLemmas
mod NeedLemmas
mod ClassLemmas
mod WordLemmas
mod ExactLemmas
