use Rattle.std.proofs.Common.{◌∙◌, refl, sym}
use Rattle.replay.proofs.Going.{full-flying, goes-same}
use Rattle.replay.proofs.replay.Replay.make_room.Goals as goal

pub returns-then-has_place-clause-goes : goal.returns-then-has_place-clause-goes
returns-then-has_place-clause-goes c = goes-same c.args.self.now c.args.self.now refl refl

pub returns-else-has_place-2-clause-why : goal.returns-else-has_place-2-clause-why
returns-else-has_place-2-clause-why c =
    full-flying c.args.self.now c.empty_audit.new.self c.in_ok-empty_audit.ensures.goes c.in_ok-empty_audit.ensures.empty (sym c.has_place-2.ensures ∙ c.if-has_place-2.false)
