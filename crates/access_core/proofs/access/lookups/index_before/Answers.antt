-- A queue that has the number is the one that is sought, and one that hasn't is looked at no more.
use Rattle.std.proofs.Common.{◌≡◌, ◌∙◌, ◌+◌, ◌-◌, ◌<◌, Some, ap, sym, subst, false, length, arith}
use Rattle.std.specs.Prelude.{slice_get}
use Rattle.access_core.proofs.Numbered.{index-is, none-from, not-before}
use Rattle.access_core.proofs.Terms.{IsNotFrom, has_number, slice_get-get_or}
use Rattle.access_core.proofs.access.lookups.index_before.Goals as goal

pub returns-then-eq : goal.returns-then-eq
returns-then-eq = grind (arith, index-is)

pub loop-index-preserved : goal.loop-index-preserved
loop-index-preserved c =
    let qs = c.args.queues.now in
    let one = c.index-queues-index.result in
    let within : c.loop-index.index - 1 < length qs = grind arith in
    let other : has_number c.args.queue one ≡ false = grind arith in
    let here : slice_get qs (c.loop-index.index - 1) ≡ Some one = slice_get-get_or qs (c.loop-index.index - 1) one within ∙ ap Some (sym c.index-queues-index.is) in
    let back : c.loop-index.index - 1 + 1 ≡ c.loop-index.index = grind arith in
    not-before qs c.args.queue (c.loop-index.index - 1) one (subst (IsNotFrom qs c.args.queue) (sym back) c.loop-index.invariant) here other

pub returns : goal.returns
returns = grind (arith, none-from)
