-- A call that takes no memory leaves the places of the tables as they are.
use Rattle.std.proofs.Common.{Some, ◌≡◌, ◌<◌, ℕ, List, length-append, map, arith, vec_capacity}
use Rattle.std.specs.Global.{Vec}
use Rattle.access_core.proofs.Terms.{Core, Entry, Inside, IsEntered, Ledger, PacketId, Queue, QueueError, Roomy, core_of, error_places, places_of, table_places}
use Rattle.access_core.proofs.Terms.{with_leaving}
use Rattle.access_core.specs.declared.access.leaving.Leaving.TheVariants as leaving
use Rattle.grants.specs.Ledger as ledger

-- an entry takes a place that was free
entered-places : (old new : Roomy Entry) (entry : Entry) → IsEntered old new entry → places_of new ≡ places_of old
entered-places old new entry is = grind (arith, length-append)

-- and so does an error
pub failed-places : (q : Queue) (id : PacketId) (error : QueueError) → 0 < q.errors.room → error_places (with_leaving (Some id) (leaving.Failed error) q) ≡ error_places q
failed-places q id error some = grind (arith, length-append)

module _ (a : Inside) (core : Core) (seen_as : core_of a ≡ core) where
  -- the audit has an entry more, and each other table as many places as before
  pub places-kept : (queues : Vec Queue) (grants : Ledger) (spare : ℕ) (audit : Roomy Entry) (entry : Entry) → vec_capacity queues ≡ vec_capacity a.queues
      → map error_places queues.items ≡ map error_places a.queues.items → ledger.places grants ≡ ledger.places a.grants → spare ≡ a.spare
      → IsEntered a.audit audit entry
      → table_places a.kernels a.segments queues grants spare audit ≡ core.places
  places-kept queues grants spare audit entry of_queues of_errors of_holds of_spare is = grind (arith, entered-places)

  -- a queue was closed, with whose errors their places went
  pub places-closed : (queues : Vec Queue) (audit : Roomy Entry) (entry : Entry) (left : List ℕ) → vec_capacity queues ≡ vec_capacity a.queues
      → map error_places queues.items ≡ left → IsEntered a.audit audit entry
      → table_places a.kernels a.segments queues a.grants a.spare audit ≡ record core.places { error_places = left }
  places-closed queues audit entry left of_queues of_errors is = grind (arith, entered-places)
