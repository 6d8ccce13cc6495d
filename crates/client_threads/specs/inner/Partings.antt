-- Where what was taken parts from what was served (own).
use Rattle.std.specs.Prelude.{◌≡◌, ◌≢◌, ◌+◌, ◌<◌, ◌^◌, ℕ, List, ◌∷◌, ◌++◌, Some, length, slice_get}
use Rattle.core_model.specs.declared.served.Served.{Served}
use Rattle.client_threads.specs.HandedOver.{kept_by}
use Rattle.client_threads.specs.Lanes.{LaneSeen}
use Rattle.client_threads.specs.Takes.{served_by}

-- two lists begin alike, and then part: the first goes on with a packet, and what is left of the second doesn't begin with it
pub record PartsBefore (taken served left : List Served) : Type 0 where
  pub alike : List Served
  pub one : Served
  pub more : List Served
  pub taken_is : taken ≡ alike ++ one ∷ more
  pub served_is : served ≡ alike ++ left
  pub other : slice_get left 0 ≢ Some one

-- so many packets did the lane of a queue hand over; and its ids fit a word
abbrev pub HandedBy : List LaneSeen → ℕ → ℕ → Type 0
HandedBy lanes queue count = (count + length (kept_by lanes queue) ≡ length (served_by lanes queue)) × (length (served_by lanes queue) < 2 ^ 64)
