pub mod NumberLemmas
pub mod Maps
pub mod RunLemmas
pub mod OnlyRuns
mod ValueLemmas
mod GroupLemmas
mod FlatLemmas
mod ItemLemmas
mod TurnLemmas
pub mod HeldWrites
mod ViewLemmas
mod AccessLemmas
mod RoundLemmas
mod GroupEnds
mod ReadBytes
mod WordLemmas
mod MaskLemmas
mod ChunkLemmas
mod RightRuns
mod Layers
mod LockLemmas
mod GlobalFootprints
mod GroupFootprints
mod AtomicFootprints
mod TurnFootprints
mod OrderedRuns
mod PlaceLemmas
mod FewLemmas
mod RowLemmas
mod AtomicLemmas
