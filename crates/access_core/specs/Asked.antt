-- What may be asked of a core by who tells of it: a packet in flight, as its place (own).
pub use Rattle.access_core.specs.inner.CachedQueue.{place_of}
