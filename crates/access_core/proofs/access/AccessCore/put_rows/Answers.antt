-- What is cached follows the reload, which is entered.
use Rattle.std.proofs.Common.{refl, ◌∙◌, []}
use Rattle.policy.specs.declared.rows.PolicyRows.{PolicyRows}
use Rattle.core_model.specs.declared.event.Event.TheVariants.{Reload}
use Rattle.access_core.proofs.Seen.{seen}
use Rattle.access_core.proofs.CachedMore.{IsCached-more, memory-still, queues-still}
use Rattle.access_core.proofs.QueueAt.{IsQuiet, flight-quiet}
use Rattle.access_core.proofs.Laid.{quiet-laid}
use Rattle.access_core.proofs.HeldAfter.{blocks-still, held-still}
use Rattle.access_core.proofs.Terms.{start_of}
use Rattle.core_model.specs.declared.outcome.Outcome.TheVariants as outcome
use Rattle.access_core.proofs.access.AccessCore.put_rows.Goals as goal

quiet : (rows : PolicyRows) → IsQuiet (Reload rows) outcome.Accepted []
quiet rows = record { launches = refl; progress = λ queue id p. refl; stays = λ queue id. refl; releases = λ fs. refl; views = λ m v. refl }

pub put_rows-requires : goal.put_rows-requires
put_rows-requires c = λ queue id client on right has_it. let none = c.self.invariant.unheld queue id client on right in absurd cc

pub invariant_of-self : goal.invariant_of-self
invariant_of-self c =
    let a = c.self.inside in
    let calm = quiet c.args.rows in
    let reloads = c.put_rows.ensures in
    IsCached-more a _ (Reload c.args.rows) outcome.Accepted [] c.self.invariant
    (record {
      same = ((refl, refl, refl), refl);
      audit = rw (c.none.ensures, c.requires.told) at c.enter.ensures;
      blocks = c.self.invariant.blocks;
      grants = record {
        granted = reloads.kept;
        rules = reloads.rules;
        held = held-still a c.self.invariant _ _ _ refl calm.stays;
        unheld = λ queue id client on right. reloads.same_holds queue id client on right ∙ c.self.invariant.unheld queue id client on right;
        blocks_are = rw (flight-quiet (start_of a) a.audit.items _ _ _ calm) c.self.invariant.blocks_are;
        arguments = blocks-still a c.self.invariant _ _ _ refl calm.stays;
      };
      memory = memory-still a.memory [] (λ x byte. refl);
      values = refl;
      queues = queues-still a c.self.invariant _ _ _ calm (λ all. refl);
      laid = quiet-laid a c.self.invariant;
      ready = c.self.invariant.ready;
    })
    _ (seen c.self.view_is) c.requires.may
