-- The packets so far are told, in the room that was got.
use Rattle.std.proofs.Common.{◌≡◌, map, take, vec_capacity}
use Rattle.access_core.specs.inner.Closing.{release_from}
use Rattle.access_core.proofs.Terms.{MOST_IN_FLIGHT}
use Rattle.access_core.proofs.release_room.ReleaseRoom.tell.Given as goal

abbrev pub invariant-loop-place : goal.invariant-loop-place
invariant-loop-place l = (l.releases.items ≡ map (release_from l.queue) (take l.place-index l.places)) × (vec_capacity l.releases ≡ MOST_IN_FLIGHT)
