-- The positions so far are written.
use Rattle.std.proofs.Common.{decimal, string_bytes, ◌∷◌, []}
use Rattle.script.specs.Entries.{seen_at}
use Rattle.script.proofs.Commas.{IsListed}
use Rattle.script.proofs.entries.write_seen.Given as goal

abbrev pub invariant-loop-position : goal.invariant-loop-position
invariant-loop-position l = IsListed (seen_at l.seen) decimal (1 ∷ 2 ∷ 3 ∷ 4 ∷ 5 ∷ []) l.position-index (string_bytes l.initial.out) (string_bytes l.out) l.any
