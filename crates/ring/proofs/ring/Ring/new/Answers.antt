use Rattle.std.proofs.Common.{◌≡◌, List, sym, subst}
use Rattle.std.specs.Prelude.{All}
use Rattle.ring.specs.Passes.{ProducerSeen}
use Rattle.ring.proofs.Dealing.{dealt_all}
use Rattle.ring.proofs.ring.Ring.new.Goals as goal

pub returns-clause-belong : goal.returns-clause-belong
returns-clause-belong c =
    let ring = c.in_ok-ring.ring in
    subst (λ (passes : List ProducerSeen). All (λ pass. pass.table ≡ ring.table) passes) (sym c.in_ok-passes.ensures) (dealt_all ring.table ring.producers)
