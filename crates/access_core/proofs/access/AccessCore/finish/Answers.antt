-- Its packet was found, and its work is done.
use Rattle.std.proofs.Common.{◌∙◌, sym}
use Rattle.access_core.proofs.Terms.{IsFinishedAs}
use Rattle.access_core.proofs.access.AccessCore.finish.Goals as goal

pub complete_found-requires-clause-finished : goal.complete_found-requires-clause-finished
complete_found-requires-clause-finished c = record {
  place = c.in_ok-found.found.place;
  found = c.in_ok-found.ensures.found;
  signal_is = c.completion_signal-signal.ensures;
  due_is = c.in_ok-found.ensures.may;
}
