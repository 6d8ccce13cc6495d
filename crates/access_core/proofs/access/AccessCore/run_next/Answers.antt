-- A packet that isn't in flight, or has no groups, is refused.
use Rattle.std.proofs.Common.{◌≡◌, refl, rules, inl, Err, arith}
use Rattle.access_core.proofs.RunLemmas.{no-groups, run-refused}
use Rattle.std.proofs.Common.{ap}
use Rattle.policy.specs.Results.{map_ok}
use Rattle.core_model.specs.declared.outcome.Outcome.TheVariants as outcome
use Rattle.core_model.proofs.Room.{fault-finds}
use Rattle.access_core.proofs.Rooms.{never-told}
use Rattle.access_core.proofs.Terms.{Call, RunNext}
use Rattle.access_core.proofs.access.AccessCore.run_next.Goals as goal

pub returns-in_err-place-clause-met : goal.returns-in_err-place-clause-met
returns-in_err-place-clause-met c =
    let h = c.args.self.now.history in
    let is = run-refused h c.args.queue c.args.packet _ c.in_err-place.ensures.why in
    let reply : c.from_residual.result ≡ Err c.in_err-place.field-0.0 = search rules in
    inl (record { reply_is = rw (is, reply) refl; history_is = rw is refl })

pub returns-in-BarrierAnd-clause-met : goal.returns-in-BarrierAnd-clause-met
returns-in-BarrierAnd-clause-met = grind (arith, no-groups)

pub returns-in-BarrierOr-clause-met : goal.returns-in-BarrierOr-clause-met
returns-in-BarrierOr-clause-met = grind (arith, no-groups)

-- a group that is owed a fault finds room

pub returns-in-Agent-clause-room : goal.returns-in-Agent-clause-room
returns-in-Agent-clause-room c = λ error effects owing is.
    never-told (Call (RunNext c.args.queue c.args.packet)) _ _ _ c.run_agent.ensures.met
    (fault-finds c.args.self.now.history c.keeps_room.ensures c.args.queue c.args.packet error effects owing) (ap (map_ok outcome.Worked) is)

pub returns-in-Kernel-clause-room : goal.returns-in-Kernel-clause-room
returns-in-Kernel-clause-room c = λ error effects owing is.
    never-told (Call (RunNext c.args.queue c.args.packet)) _ _ _ c.run_kernel.ensures.met
    (fault-finds c.args.self.now.history c.keeps_room.ensures c.args.queue c.args.packet error effects owing) (ap (map_ok outcome.Worked) is)
