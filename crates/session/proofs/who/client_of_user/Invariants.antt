use Rattle.std.proofs.Common.{◌≡◌, drop}
use Rattle.session.specs.Who.{first_of, for_user}
use Rattle.session.proofs.who.client_of_user.Given as goal

abbrev pub invariant-loop-entry : goal.invariant-loop-entry
invariant-loop-entry l = first_of (for_user l.user) l.entries ≡ first_of (for_user l.user) (drop l.entry-index l.entries)
