-- What is kept moves along with a client's write, which is entered where there is room.
use Rattle.std.proofs.Common.{refl, List, [], ◌∷◌, ℕ}
use Rattle.access_core.proofs.Terms.{Address, Call, ClientId, HostWrite, Write, start_of}
use Rattle.access_core.proofs.Seen.{seen}
use Rattle.access_core.proofs.Laid.{quiet-laid}
use Rattle.access_core.proofs.HeldAfter.{grants-still}
use Rattle.access_core.proofs.CachedMore.{IsCached-more, queues-still}
use Rattle.access_core.proofs.QueueAt.{IsQuiet, flight-quiet}
use Rattle.access_core.proofs.HostMemory.{byte_at-written}
use Rattle.core_model.specs.declared.outcome.Outcome.TheVariants as outcome
use Rattle.access_core.proofs.access.AccessCore.host_write.Goals as goal

quiet : (client : ClientId) (address : Address) (bytes : List ℕ) → IsQuiet (Call (HostWrite client address bytes)) outcome.Accepted (Write address bytes ∷ [])
quiet client address bytes = record { launches = refl; progress = λ queue id p. refl; stays = λ queue id. refl; releases = λ fs. refl; views = λ m v. refl }

pub invariant_of-self : goal.invariant_of-self
invariant_of-self c =
    let a = c.self.inside in
    let calm = quiet c.args.client c.args.address c.args.bytes in
    IsCached-more a _ (Call (HostWrite c.args.client c.args.address c.args.bytes)) outcome.Accepted (Write c.args.address c.args.bytes ∷ []) c.self.invariant
    (record {
      same = ((refl, refl, refl), refl);
      audit = rw (c.one-effects.ensures, c.in_ok-written.ensures.copy, c.as_slice.ensures) at c.enter.ensures;
      blocks = c.self.invariant.blocks;
      grants = grants-still a c.self.invariant _ _ _ refl calm.stays (λ client on right b. refl) (λ rows. refl) (flight-quiet (start_of a) a.audit.items _ _ _ calm);
      memory = record {
        lengths = c.lay.ensures.lengths;
        memory = λ x byte before. byte_at-written _ _ c.args.address c.args.bytes x byte (rw c.as_slice-2.ensures at c.lay.ensures.bytes) before;
      };
      values = refl;
      queues = queues-still a c.self.invariant _ _ _ calm (λ all. refl);
      laid = quiet-laid a c.self.invariant;
      ready = c.self.invariant.ready;
    })
    _ (seen c.self.view_is) c.in_ok-may_write.ensures.may
