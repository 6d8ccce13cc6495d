-- The rows of the objects so far stand behind the others.
use Rattle.std.proofs.Common.{◌≡◌, ◌++◌, map}
use Rattle.grants.proofs.Terms.{in_force, object_of, range_with_len}
use Rattle.policy.specs.Listing.{listing_by}
use Rattle.grants.proofs.grants.Grants.list_kind.Given as goal

abbrev pub invariant-loop-before : goal.invariant-loop-before
invariant-loop-before l = l.rows ≡ l.fn.rows ++ listing_by (in_force l.self l.client) (map (object_of l.kind) (range_with_len 1 l.before))
