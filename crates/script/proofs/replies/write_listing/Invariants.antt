-- The objects so far are written.
use Rattle.std.proofs.Common.{◌≡◌, ◌++◌, string_bytes, take, flat_map}
use Rattle.script.specs.Replies.{text_of_listed}
use Rattle.script.proofs.replies.write_listing.Given as goal

abbrev pub invariant-loop-object : goal.invariant-loop-object
invariant-loop-object l = string_bytes l.out ≡ string_bytes l.initial.out ++ flat_map (λ listed. text_of_listed l.policy listed.0 listed.1) (take l.object-index l.all)
