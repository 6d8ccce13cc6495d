-- What is kept tells the same of the state behind the audit, from which the history goes on.
use Rattle.std.proofs.Common.{◌≡◌, ◌∙◌, sym, ap, subst, false, map}
use Rattle.core_model.specs.declared.entry.Entry.{Entry}
use Rattle.core_model.specs.declared.origin.Origin.{Origin}
use Rattle.core_model.specs.History.{History, Part, begin, beginning}
use Rattle.core_model.specs.Legal.{IsLegal, SameOrigin}
use Rattle.core_model.specs.Rotation.{lies_too_far}
use Rattle.core_model.specs.States.{state_after}
use Rattle.core_model.proofs.States.{rotated-part, same-begin}
use Rattle.regions.specs.Memory.{lengths_of}
use Rattle.sequences.specs.Room.{Roomy}
use Rattle.grants.specs.Ledger.{IsCopy}
use Rattle.access_core.specs.inner.Cached.{IsKeptStart}
use Rattle.access_core.specs.inner.Ready.{HasLists}
use Rattle.access_core.proofs.Laid.{blocks-count}
use Rattle.access_core.proofs.ReadyLemmas.{ready-rotated}
use Rattle.access_core.proofs.Rotating.{IsCached-provided, IsCached-rotated, few-behind, same-kept}
use Rattle.access_core.proofs.Seen.{seen}
use Rattle.access_core.proofs.Terms.{history_of, program_of, start_of}
use Rattle.access_core.proofs.access.AccessCore.rotate.Goals as goal

pub invariant_of-self-2 : goal.invariant_of-self-2
invariant_of-self-2 c =
    let a = c.self.inside in
    let near : lies_too_far (history_of a) ≡ false = ap lies_too_far (seen c.self.view_is) ∙ sym c.lies_too_far.ensures ∙ c.if-lies_too_far.false in
    let ends : begin (map program_of a.kernels.items) c.in_ok-end.end ≡ state_after (start_of a) a.audit.items =
    subst (λ (h : History). begin h.kernels c.in_ok-end.end ≡ state_after (beginning h) h.entries) (sym (seen c.self.view_is)) c.in_ok-end.ensures.begins in
    let begins : begin (map program_of a.kernels.items) c.replace-start.new.dest ≡ state_after (start_of a) a.audit.items =
    ap (begin (map program_of a.kernels.items)) c.replace-start.ensures.after
    ∙ same-begin (map program_of a.kernels.items) c.in_ok-next.next c.in_ok-end.end (subst (SameOrigin c.in_ok-next.next) c.as_ref.ensures c.in_ok-next.ensures.same) ∙ ends in
    IsCached-rotated a c.self.invariant c.replace-start.new.dest c.replace-entries.new.dest c.provide.new.self 0
    (ready-rotated a.fresh a.told a.start c.self.invariant.blocks c.self.invariant.ready c.provide.new.self c.provide.ensures.rights_kept c.provide.ensures.bytes_kept c.replace-start.new.dest
    (subst (HasLists c.provide.new.self) (sym (blocks-count a c.self.invariant)) (c.in_ok-provide.ensures.rights.0, c.in_ok-provide.ensures.bytes.0)))
    begins
    (ap (λ (list : Roomy Entry). list.items) c.replace-entries.ensures.after ∙ c.in_ok-empty.ensures.empty)
    (ap (λ (list : Roomy Entry). list.room) c.replace-entries.ensures.after ∙ c.in_ok-empty.ensures.room)
    (few-behind a c.self.invariant c.replace-start.new.dest near begins)
    (subst IsKeptStart (sym c.replace-start.ensures.after)
    (same-kept c.in_ok-next.next c.in_ok-end.end (subst (SameOrigin c.in_ok-next.next) c.as_ref.ensures c.in_ok-next.ensures.same)
    (c.in_ok-next.ensures.policy ∙ ap (λ (o : Origin). o.policy) c.as_ref.ensures)
    (subst (λ (o : Origin). IsCopy o.grants c.in_ok-next.next.grants) c.as_ref.ensures c.in_ok-next.ensures.grants) c.in_ok-end.ensures.kept))

pub invariant_of-self : goal.invariant_of-self
invariant_of-self c = IsCached-provided c.self.inside c.self.invariant c.provide.new.self c.provide.ensures.rights_kept c.provide.ensures.bytes_kept

pub returns-clause-rotated : goal.returns-clause-rotated
returns-clause-rotated c =
    let end : c.new.result.end ≡ c.in_ok-end.end = ap (λ (p : Part). p.end) c.new.ensures in (
      sym c.lies_too_far.ensures ∙ c.if-lies_too_far.false,
      record {
        start_is = ap (λ (p : Part). p.start) c.new.ensures ∙ c.replace-start.ensures.value ∙ ap (λ (h : History). h.origin) (seen c.self.view_is);
        entries_are = ap (λ (p : Part). p.entries) c.new.ensures ∙ ap (λ (list : Roomy Entry). list.items) c.replace-entries.ensures.value ∙ ap (λ (h : History). h.entries) (seen c.self.view_is);
        end_is = ap (begin c.args.self.now.history.kernels) end ∙ c.in_ok-end.ensures.begins;
        lengths = ap (λ (o : Origin). lengths_of o.memory) end ∙ c.in_ok-end.ensures.lengths;
        declared = (
          ap (λ (o : Origin). o.policy) end ∙ c.in_ok-end.ensures.policy,
          ap (λ (o : Origin). o.policy) c.replace-start.ensures.after ∙ c.in_ok-next.ensures.policy ∙ ap (λ (o : Origin). o.policy) c.as_ref.ensures ∙ c.in_ok-end.ensures.policy,
        );
        goes_on = subst (SameOrigin c.replace-start.new.dest) (sym end) (subst (λ (o : Origin). SameOrigin o c.in_ok-end.end) (sym c.replace-start.ensures.after) (subst (SameOrigin c.in_ok-next.next) c.as_ref.ensures c.in_ok-next.ensures.same));
        kernels_are = ap (λ (h : History). h.kernels) (seen c.self.view_is);
        capacity_is = ap (λ (h : History). h.capacity) (seen c.self.view_is);
        empty = ap (λ (list : Roomy Entry). list.items) c.replace-entries.ensures.after ∙ c.in_ok-empty.ensures.empty;
      },
    )

pub returns-clause-legal : goal.returns-clause-legal
returns-clause-legal c =
    rotated-part c.args.self.now.history _ _ (subst (λ (h : History). IsLegal (beginning h) h.entries) (seen c.self.view_is) c.self.invariant.legal) (returns-clause-rotated c).1
