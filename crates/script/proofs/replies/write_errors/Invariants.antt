-- The errors so far are written.
use Rattle.std.proofs.Common.{◌≡◌, ◌++◌, string_bytes, take, flat_map}
use Rattle.script.specs.Replies.{line_of_error}
use Rattle.script.proofs.replies.write_errors.Given as goal

abbrev pub invariant-loop-error : goal.invariant-loop-error
invariant-loop-error l = string_bytes l.out ≡ string_bytes l.initial.out ++ flat_map line_of_error (take l.error-index l.all)
