-- What the code did is what is owed, and the rings and the history stay in step.
use Rattle.std.proofs.Common.{◌++◌, subst}
use Rattle.world.specs.States.{Joined}
use Rattle.world.specs.Dues.{IsServed, handed}
use Rattle.world.proofs.Kept.{served_kept}
use Rattle.world.proofs.Obeyed.{World, obeyed_served}
use Rattle.world.proofs.Deciding.{obeyed_decided}
use Rattle.world.proofs.world.World.serve.Goals as goal

pub serve_request-requires : goal.serve_request-requires
serve_request-requires c = c.self.invariant.0.behind.apart

pub invariant_of-self : goal.invariant_of-self
invariant_of-self c =
    let s = c.self.inside in
    let h = c.self.invariant.0 in
    let core = s.core.history in
    let core' = c.serve_request.new.core.history in
    let old = s.rings.items in
    let new = c.serve_request.new.rings.items in
    let gone = s.closed in
    let gone' = c.serve_request.new.closed in
    let after : Joined = World core' new gone' in
    let served : IsServed (World core old gone) c.args.request c.serve_request.result after =
    obeyed_served core core' old gone new gone' c.self.invariant.1 c.serve_request.result c.args.request c.serve_request.ensures in (
      record { first = h.first; prior = h.prior ++ handed c.serve_request.result; behind = served_kept h.first h.prior (World core old gone) h.behind c.args.request c.serve_request.result after served },
      obeyed_decided core core' old gone new gone' h.first h.prior h.behind c.self.invariant.1 c.serve_request.result c.args.request c.serve_request.ensures,
    )

pub returns-clause-served : goal.returns-clause-served
returns-clause-served c =
    let s = c.self.inside in
    let h = c.self.invariant.0 in
    subst (λ (w : Joined). IsServed w c.args.request c.serve_request.result (World c.serve_request.new.core.history c.serve_request.new.rings.items c.serve_request.new.closed)) c.self.view_is
    (obeyed_served s.core.history c.serve_request.new.core.history s.rings.items s.closed c.serve_request.new.rings.items c.serve_request.new.closed c.self.invariant.1 c.serve_request.result c.args.request c.serve_request.ensures)

pub returns-clause-joined : goal.returns-clause-joined
returns-clause-joined c =
    let s = c.self.inside in
    let h = c.self.invariant.0 in
    let old : Joined = World s.core.history s.rings.items s.closed in
    let new : Joined = World c.serve_request.new.core.history c.serve_request.new.rings.items c.serve_request.new.closed in
    let served : IsServed old c.args.request c.serve_request.result new =
    obeyed_served s.core.history c.serve_request.new.core.history s.rings.items s.closed c.serve_request.new.rings.items c.serve_request.new.closed c.self.invariant.1 c.serve_request.result c.args.request c.serve_request.ensures in
    record { first = h.first; prior = h.prior ++ handed c.serve_request.result; behind = served_kept h.first h.prior old h.behind c.args.request c.serve_request.result new served }
