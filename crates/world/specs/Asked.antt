-- Which requests the entries of a history are of.
use Rattle.std.specs.Prelude.{◌≡◌, ◌⊎◌, ℕ, List, [], ◌∷◌, ◌++◌}
use Rattle.kernel_check.specs.Programs.{Program}
use Rattle.core_model.specs.declared.entry.Entry.{Entry}
use Rattle.core_model.specs.declared.event.Event.{Event}
use Rattle.core_model.specs.declared.event.Event.TheVariants.{Call, Open, Reload}
use Rattle.ring_core.specs.Machine.{judged_size}
use Rattle.world.specs.declared.request.Request.{Request}
use Rattle.world.specs.declared.request.Request.TheVariants as request
use Rattle.world.specs.Dues.{taking}
use Rattle.world.specs.States.{Joined}

-- an event is what a request asks of the core: a take hands over some words of the queue, under some id; a step of a ring, a query and
-- a rotation are no events (own)
abbrev pub IsOf : Request → Event → Type 0
IsOf (request.Take queue) event = (id : ℕ) × (words : List ℕ) × (event ≡ taking queue id words)
IsOf (request.OpenQueue client agent size producers) event = event ≡ Open client agent (judged_size size producers)
IsOf (request.Call asked) event = event ≡ Call asked
IsOf (request.Reload policy) event = event ≡ Reload policy.rows
IsOf _ event = ⊥

-- each entry is of one of the requests, in their order, and each request has one entry at most (own)
abbrev pub AreOf : List Request → List Entry → Type 0
AreOf [] entries = entries ≡ []
AreOf (asked ∷ requests) entries =
    AreOf requests entries ⊎ ((entry : Entry) × (rest : List Entry) × (entries ≡ entry ∷ rest) × IsOf asked entry.event × AreOf requests rest)

-- a world goes on from another with the same kernels and room: what was handed out meanwhile and then its own entries are the other's,
-- and further ones, which are of the requests (own)
pub record GoesOnAsAsked (old : Joined) (requests : List Request) (handed : List Entry) (new : Joined) : Type 0 where
  pub more : List Entry
  pub entries_are : handed ++ new.core.entries ≡ old.core.entries ++ more
  pub of_requests : AreOf requests more
  pub kernels_are : new.core.kernels ≡ old.core.kernels
  pub capacity_is : new.core.capacity ≡ old.core.capacity

-- a world has the kernels and the audit's room that it was opened with, and its history is of what was asked of it since; these are the
-- entries that were handed out (own)
pub record IsAsAsked (kernels : List Program) (capacity : ℕ) (requests : List Request) (prior : List Entry) (world : Joined) : Type 0 where
  pub kernels_are : world.core.kernels ≡ kernels
  pub capacity_is : world.core.capacity ≡ capacity
  pub entries_are : AreOf requests (prior ++ world.core.entries)
