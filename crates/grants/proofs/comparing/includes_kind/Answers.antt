use Rattle.std.proofs.Common.{◌≡◌, ◌+◌, ◌≤◌, ◌∙◌, true, false, refl, sym, subst, arith, true≢false}
use Rattle.grants.proofs.Terms.{Object, Rules, count, object_of}
use Rattle.grants.specs.inner.Comparing.{is_included}
use Rattle.grants.proofs.CompareLemmas.{no-kind, next-kind, whole-kind, one-of_kind}
use Rattle.grants.proofs.comparing.includes_kind.Goals as goal

pub loop-before-init : goal.loop-before-init
loop-before-init c = no-kind c.args.table.now c.args.other.now c.args.client c.args.kind

pub loop-before-preserved : goal.loop-before-preserved
loop-before-preserved c =
    next-kind c.args.table.now c.args.other.now c.args.client c.args.kind c.loop-before.before c.loop-before.invariant
    (subst (λ (x : Object). is_included c.args.table.now c.args.other.now c.args.client x ≡ true) c.of.ensures (sym c.is_included.ensures ∙ c.if-not-is_included.false))

pub returns-then-not-is_included : goal.returns-then-not-is_included
returns-then-not-is_included c = (
  λ e. absurd (true≢false (sym e)),
  λ h. absurd (true≢false (sym (one-of_kind c.args.table.now c.args.other.now c.args.client c.args.kind (c.loop-before.before + 1) h)
      ∙ subst (λ (x : Object). is_included c.args.table.now c.args.other.now c.args.client x ≡ false) c.of.ensures (sym c.is_included.ensures ∙ c.if-not-is_included.true))),
)

pub returns : goal.returns
returns c = (
  λ e. whole-kind c.args.table.now c.args.other.now c.args.client c.args.kind c.loop-before.before
      (subst (λ (r : Rules). count r c.args.kind ≤ c.loop-before.before) c.rules.ensures (omega arith)) c.loop-before.invariant,
  λ h. refl,
)
