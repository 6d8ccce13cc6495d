-- What is kept moves along with the change of a signal, which is entered where there is room.
use Rattle.std.proofs.Common.{refl, [], ◌∷◌, w64, to_z-of_z, SFits, rules, ℤ}
use Rattle.access_core.proofs.Terms.{Call, ChangeSignal, ClientId, SignalHandle, applied, old_if_asked, start_of}
use Rattle.signals.specs.declared.operation.SignalOp.{SignalOp}
use Rattle.access_core.proofs.Seen.{seen}
use Rattle.access_core.proofs.Laid.{quiet-laid}
use Rattle.access_core.proofs.HeldAfter.{grants-still}
use Rattle.access_core.proofs.CachedMore.{IsCached-more, memory-still, queues-still}
use Rattle.access_core.proofs.QueueAt.{IsQuiet, flight-quiet}
use Rattle.core_model.specs.declared.entry.Effect.TheVariants as effect
use Rattle.core_model.specs.declared.outcome.Outcome.TheVariants as outcome
use Rattle.access_core.proofs.access.AccessCore.signal_op.Goals as goal

quiet : (client : ClientId) (signal : SignalHandle) (operation : SignalOp) (old : ℤ)
    → IsQuiet (Call (ChangeSignal client signal operation)) (outcome.Changed (old_if_asked operation old)) (effect.Signal signal old (applied operation old) ∷ [])
quiet client signal operation old = record { launches = refl; progress = λ queue id p. refl; stays = λ queue id. refl; releases = λ fs. refl; views = λ m v. refl }

pub invariant_of-self : goal.invariant_of-self
invariant_of-self c =
    let fits : SFits w64 c.in_ok-old.old = search rules in
    let fits-told : SFits w64 c.old_if_asked-answer.result = search rules in
    let fits-new : SFits w64 c.change-new.result = search rules in
    let values = simp to_z-of_z at c.change-new.ensures.values in
    let entries = simp (to_z-of_z, c.one-effects.ensures) at c.enter.ensures.items in
    let told = simp to_z-of_z at c.old_if_asked-answer.ensures in
    let new = simp to_z-of_z at c.change-new.ensures.new in
    let calm = quiet c.args.client c.args.signal c.args.operation c.in_ok-old.old in
    IsCached-more c.self.inside _ (Call (ChangeSignal c.args.client c.args.signal c.args.operation)) (outcome.Changed (old_if_asked c.args.operation c.in_ok-old.old))
    (effect.Signal c.args.signal c.in_ok-old.old (applied c.args.operation c.in_ok-old.old) ∷ []) c.self.invariant
    (record {
      same = ((refl, refl, refl), refl);
      audit = record { items = rw (told, new) at entries; room = c.enter.ensures.room };
      blocks = c.self.invariant.blocks;
      grants = grants-still c.self.inside c.self.invariant _ _ _ refl calm.stays (λ client on right b. refl) (λ rows. refl) (flight-quiet (start_of c.self.inside) c.self.inside.audit.items _ _ _ calm);
      memory = memory-still c.self.inside.memory _ (λ x byte. refl);
      values = values;
      queues = queues-still c.self.inside c.self.invariant _ _ _ calm (λ all. refl);
      laid = quiet-laid c.self.inside c.self.invariant;
      ready = c.self.invariant.ready;
    })
    _ (seen c.self.view_is) c.in_ok-old.ensures.may
