-- The next region is lent where a right on it is listed.
use Rattle.core_model.specs.History.{beginning}
use Rattle.std.proofs.Common.{◌≡◌, ◌∙◌, ◌+◌, ◌++◌, ap, sym, arith, option_to_list, Option, None}
use Rattle.access_core.proofs.Terms.{HeldRegion, append-nil, is_listed, length-map}
use Rattle.access_core.proofs.LendingLemmas.{lent-all, lent-behind, lent-below, lent-none}
use Rattle.access_core.proofs.access.AccessCore.view.Goals as goal
use Rattle.access_core.proofs.access.AccessCore.view.Goals.{then-is_marked+in-Some+in_ok-put, then-is_marked+in_default, else-is_marked}

number-is : (c : goal.After-view-1) → c.in-Some.held.handle.0 ≡ c.loop-before.before + 1
number-is c = grind arith

pub put-requires-clause-begins : goal.put-requires-clause-begins
put-requires-clause-begins c = omega (arith, number-is c)

pub put-requires-clause-ends : goal.put-requires-clause-ends
put-requires-clause-ends = grind (arith, length-map)

pub put-requires-clause-behind : goal.put-requires-clause-behind
put-requires-clause-behind = grind (arith, lent-below)

pub loop-before-preserved : goal.loop-before-preserved
loop-before-preserved c =
    let h = c.args.self.now.history in
    let all = is_listed c.args.given.now in
    let before = c.loop-before.view in
    elim c.if-is_marked.branch [
      | then-is_marked+in-Some+in_ok-put w ↦
          lent-behind (beginning h) h.entries all c.loop-before.before before _ w.region_if_held.result c.loop-before.invariant w.region_if_held.ensures
          (w.view-is ∙ w.in_ok-put.ensures.ok ∙ ap (λ (o : Option HeldRegion). before ++ option_to_list o) (sym w.in-Some.is))
      | then-is_marked+in_default w ↦
          lent-behind (beginning h) h.entries all c.loop-before.before before _ w.region_if_held.result c.loop-before.invariant w.region_if_held.ensures
          (w.view-is ∙ sym (append-nil before) ∙ ap (λ (o : Option HeldRegion). before ++ option_to_list o) (sym w.in_default.is))
      | else-is_marked w ↦
          lent-behind (beginning h) h.entries all c.loop-before.before before _ None c.loop-before.invariant
          (sym (lent-none (beginning h) h.entries all (c.loop-before.before + 1)
          (λ right. c.regions_named-marks.ensures (record { 0 = c.loop-before.before + 1 }) right (c.is_marked.ensures w.if-is_marked.false))))
          (w.view-is ∙ sym (append-nil before))
    ]

pub returns : goal.returns
returns c =
    let h = c.args.self.now.history in
    grind (arith, length-map, lent-all (beginning h) h.entries (is_listed c.args.given.now))
