-- The next entry is one of a legal history, so the start can move on by it.
use Rattle.std.proofs.Common.{◌≡◌, ℕ, ◌+◌, ◌≤◌, ◌<◌, ◌++◌, ◌∷◌, [], List, length, sym, ◌∙◌, ap, subst, refl, take, get_or, get_or-set_other, arith}
use Rattle.std.specs.Prelude.{All}
use Rattle.std.proofs.lemmas.List.{take_more}
use Rattle.core_model.specs.declared.entry.Entry.{Entry}
use Rattle.access_core.specs.inner.MovingOn.{MayFollow, MovesOn, StepsOn}
use Rattle.access_core.proofs.MovingLemmas.{follows-next, moves-more, moves-none, within-next}
use Rattle.access_core.proofs.Terms.{LiesWithin, lengths_of, take_all}
use Rattle.access_core.proofs.access.moving.move_on.Goals as goal

pub loop-entry-init : goal.loop-entry-init
loop-entry-init c = (moves-none c.args.start.now, λ k other le. refl)

pub step_on-requires-clause-may : goal.step_on-requires-clause-may
step_on-requires-clause-may c =
    let i = c.loop-entry.entry-index in
    let e = c.entry-item.result in
    let same : get_or c.args.entries.now i e ≡ e = sym (c.loop-entry.invariant.1 i e (omega arith)) ∙ sym c.entry-item.is in
    subst (λ (x : Entry). MayFollow c.loop-entry.start.grants x.event) c.entry-item.is
    (follows-next c.args.start.now c.loop-entry.start c.args.entries.now i e c.requires c.loop-entry.invariant.0 (omega arith) same)

pub step_on-requires-clause-within : goal.step_on-requires-clause-within
step_on-requires-clause-within c =
    let i = c.loop-entry.entry-index in
    let e = c.entry-item.result in
    let same : get_or c.args.entries.now i e ≡ e = sym (c.loop-entry.invariant.1 i e (omega arith)) ∙ sym c.entry-item.is in
    subst (λ (x : Entry). All (LiesWithin (lengths_of c.loop-entry.start.memory)) x.effects) c.entry-item.is
    (within-next c.args.start.now c.loop-entry.start c.args.entries.now i e c.requires c.loop-entry.invariant.0 (omega arith) same)

pub loop-entry-preserved : goal.loop-entry-preserved
loop-entry-preserved c =
    let i = c.loop-entry.entry-index in
    let e = c.entry-item.result in
    let entries = c.args.entries.now in
    let inside : i < length entries = omega arith in
    let same : get_or entries i e ≡ e = sym (c.loop-entry.invariant.1 i e (omega arith)) ∙ sym c.entry-item.is in (
      subst (λ (es : List Entry). MovesOn c.args.start.now es c.step_on.new.start) (sym (take_more entries i e inside ∙ ap (λ (x : Entry). take i entries ++ x ∷ []) same))
          (moves-more c.args.start.now c.loop-entry.start c.step_on.new.start (take i entries) e c.loop-entry.invariant.0
          (subst (StepsOn c.loop-entry.start c.step_on.new.start) (sym c.entry-item.is) c.step_on.ensures)),
      λ k other le. get_or-set_other c.loop-entry.entries i k _ other (omega (arith, le)) ∙ c.loop-entry.invariant.1 k other (omega (arith, le)),
    )

pub returns : goal.returns
returns c =
    subst (λ (es : List Entry). MovesOn c.args.start.now es c.loop-entry.start) (take_all c.loop-entry.entry-index c.args.entries.now (omega arith)) c.loop-entry.invariant.0
