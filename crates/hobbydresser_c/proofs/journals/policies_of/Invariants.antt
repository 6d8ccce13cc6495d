-- The digests so far, and those that are left, are all.
use Rattle.std.proofs.Common.{◌≡◌, ◌++◌, ◌∷◌, drop, map}
use Rattle.hobbydresser_c.proofs.journals.policies_of.Given as goal

abbrev pub invariant-loop-digest : goal.invariant-loop-digest
invariant-loop-digest l = l.policies ++ map (λ digest. digest.bytes) (drop l.digest-index l.further) ≡ l.fn.first ∷ map (λ digest. digest.bytes) l.further
