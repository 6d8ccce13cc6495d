use Rattle.std.proofs.Common.{◌≡◌, drop}
use Rattle.session.specs.Who.{first_of, for_token}
use Rattle.session.proofs.who.client_of_token.Given as goal

abbrev pub invariant-loop-entry : goal.invariant-loop-entry
invariant-loop-entry l = first_of (for_token l.digest) l.entries ≡ first_of (for_token l.digest) (drop l.entry-index l.entries)
