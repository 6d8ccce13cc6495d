-- Nothing differs, and the rings are settled.
use Rattle.std.proofs.Common.{rules, ◌++◌, List, subst}
use Rattle.core_model.specs.declared.entry.Entry.{Entry}
use Rattle.core_model.specs.Rotation.{entries_in}
use Rattle.client_threads.specs.Lanes.{LaneSeen}
use Rattle.client_threads.specs.Settling.{all_entries}
use Rattle.client_threads.specs.Takes.{AllAgree, IsLeastMismatch}
use Rattle.client_threads.proofs.HandingOver.{all_of}
use Rattle.client_threads.proofs.settling.settle_in_rooms.Goals as goal

pub returns-clause-settled : goal.returns-clause-settled
returns-clause-settled c =
    let all = all_of c.args.settled.now c.args.parts.now c.args.core.history.entries c.audit.result.now c.audit.ensures.entries in (
      c.requires.led,
      subst (λ (ls : List LaneSeen). AllAgree (all_entries (c.args.settled.now ++ c.args.parts.now) c.args.core) ls) c.as_slice.ensures.value
          (subst (λ (es : List Entry). AllAgree es c.as_slice.result.now) all c.in_default.ensures.same),
      c.settle_rings-rings.ensures.settled,
    )

pub returns-in-Some-clause-settled : goal.returns-in-Some-clause-settled
returns-in-Some-clause-settled c =
    let all = all_of c.args.settled.now c.args.parts.now c.args.core.history.entries c.audit.result.now c.audit.ensures.entries in
    let queue = c.in-Some.queue.0 in
    let id = c.in-Some.id.0 in
    let least : IsLeastMismatch (entries_in c.args.settled.now ++ (entries_in c.args.parts.now ++ c.audit.result.now)) c.as_slice.result.now queue id = search rules in (
      c.requires.led,
      subst (λ (ls : List LaneSeen). IsLeastMismatch (all_entries (c.args.settled.now ++ c.args.parts.now) c.args.core) ls queue id) c.as_slice.ensures.value
          (subst (λ (es : List Entry). IsLeastMismatch es c.as_slice.result.now queue id) all least),
    )
