-- What rows are due, by the first packet that stands against them and by the audit's room.
use Rattle.std.proofs.Common.{All, None, Some, ◌∙◌, ap, false, subst, sym, true}
use Rattle.access_core.specs.inner.Cached.{core_of}
use Rattle.access_core.proofs.Looking.{all-forced}
use Rattle.access_core.proofs.Calls.{due-by}
use Rattle.access_core.proofs.Lying.{first-laid}
use Rattle.access_core.proofs.Seen.{seen}
use Rattle.core_model.specs.declared.event.Event.TheVariants.{Reload}
use Rattle.access_core.proofs.Terms.{AscendFrom, IsCached, IsFirstTo, IsSound, all_blocks, has_block, is_full, lists_denied}
use Rattle.access_core.proofs.ReloadLemmas.{reload-due, reload-refused}
use Rattle.access_core.proofs.access.AccessCore.may_reload.Goals as goal

pub least_denied-requires-clause-in_force : goal.least_denied-requires-clause-in_force
least_denied-requires-clause-in_force c = rw c.as_slice.ensures.value (all-forced c.self.inside c.self.invariant)

pub least_denied-requires-clause-sound : goal.least_denied-requires-clause-sound
least_denied-requires-clause-sound c = subst (All IsSound) (sym c.as_slice.ensures.value) c.self.invariant.sound

pub least_denied-requires-clause-ascending : goal.least_denied-requires-clause-ascending
least_denied-requires-clause-ascending c = subst (AscendFrom 0) (sym c.as_slice.ensures.value) c.self.invariant.ascending

pub invariant_of-self : goal.invariant_of-self
invariant_of-self c = subst (λ grants. IsCached (record c.self.inside { grants = grants })) (sym c.least_denied.ensures.same) c.self.invariant

pub returns-in-Some-clause-why : goal.returns-in-Some-clause-why
returns-in-Some-clause-why c =
    let a = c.self.inside in
    due-by a _ (seen c.self.view_is) (Reload c.args.rows.now) _
    (reload-refused a c.self.invariant c.args.rows.now c.in-Some.queue c.in-Some.packet
    (first-laid a c.self.invariant (lists_denied c.args.rows.now) c.as_slice.result.now (Some (c.in-Some.queue, c.in-Some.packet)) c.as_slice.ensures.value
    (subst (IsFirstTo (has_block (lists_denied c.args.rows.now) (all_blocks c.as_slice.result.now))) c.in-Some.is c.least_denied.ensures.first)))

pub returns-then-is_full-clause-why : goal.returns-then-is_full-clause-why
returns-then-is_full-clause-why c =
    let a = c.self.inside in
    reload-due a c.self.invariant c.args.rows.now _ (seen c.self.view_is)
    (first-laid a c.self.invariant (lists_denied c.args.rows.now) c.as_slice.result.now None c.as_slice.ensures.value
    (subst (IsFirstTo (has_block (lists_denied c.args.rows.now) (all_blocks c.as_slice.result.now))) c.in_default.is c.least_denied.ensures.first))
    true (ap is_full (sym (seen c.self.view_is)) ∙ sym c.is_full.ensures ∙ c.if-is_full.true)

pub returns-clause-may : goal.returns-clause-may
returns-clause-may c =
    let a = c.self.inside in
    reload-due a c.self.invariant c.args.rows.now _ (seen c.self.view_is)
    (first-laid a c.self.invariant (lists_denied c.args.rows.now) c.as_slice.result.now None c.as_slice.ensures.value
    (subst (IsFirstTo (has_block (lists_denied c.args.rows.now) (all_blocks c.as_slice.result.now))) c.in_default.is c.least_denied.ensures.first))
    false (ap is_full (sym (seen c.self.view_is)) ∙ sym c.is_full.ensures ∙ c.if-is_full.false)

pub returns-in-Some-clause-same : goal.returns-in-Some-clause-same
returns-in-Some-clause-same c = ap (λ grants. core_of (record c.self.inside { grants = grants })) c.least_denied.ensures.same ∙ c.self.view_is

pub returns-then-is_full-clause-same : goal.returns-then-is_full-clause-same
returns-then-is_full-clause-same c = ap (λ grants. core_of (record c.self.inside { grants = grants })) c.least_denied.ensures.same ∙ c.self.view_is

pub returns-clause-same : goal.returns-clause-same
returns-clause-same c = ap (λ grants. core_of (record c.self.inside { grants = grants })) c.least_denied.ensures.same ∙ c.self.view_is
