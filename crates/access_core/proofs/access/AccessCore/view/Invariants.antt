-- so many regions were lent, where they are listed
use Rattle.core_model.specs.History.{beginning}
use Rattle.std.proofs.Common.{◌≡◌, map}
use Rattle.access_core.proofs.Terms.{is_listed, lent_region}
use Rattle.access_core.proofs.LendingLemmas.{lent_so_far}
use Rattle.access_core.proofs.access.AccessCore.view.Given as goal

abbrev pub invariant-loop-before : goal.invariant-loop-before
invariant-loop-before l = map lent_region l.view ≡ lent_so_far (beginning l.self.history) l.self.history.entries (is_listed l.given) l.before
