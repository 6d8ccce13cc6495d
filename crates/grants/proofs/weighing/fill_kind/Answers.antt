-- The next place has what the rows allow there.
use Rattle.std.proofs.Common.{◌≡◌, ◌∙◌, ◌+◌, ◌*◌, ◌<◌, ◌&&◌, ◌||◌, not, length, ap, sym, subst, arith, rules}
use Rattle.grants.specs.Cells.{objects_before}
use Rattle.grants.specs.inner.Weighing.{IsFilled, has_at, kind_place}
use Rattle.grants.proofs.Terms.{Right, boxed_slice_items, count, has, object_count, slice_get, slice_set}
use Rattle.grants.proofs.WeighLemmas.{filled-more, kind_span, settled_kind, within_table}
use Rattle.grants.proofs.weighing.fill_kind.Goals as goal

pub put_rights-requires : goal.put_rights-requires
put_rights-requires c =
    let grid = c.args.rules.now in
    let index = c.loop-index.index in
    let small : index < count grid c.args.kind = search rules in
    let within = within_table grid c.args.before (objects_before grid c.args.kind + index) c.requires.client (kind_span grid c.args.kind index small).0 in
    let begin : c.args.before * c.object_count.result + (c.objects_before-first.result + index) ≡ c.args.before * object_count grid + (objects_before grid c.args.kind + index) =
    (λ i. c.args.before * c.object_count.ensures.count i + (c.objects_before-first.ensures.count i + index)) in
    subst (λ n. n < length (boxed_slice_items c.loop-index.allowed)) (sym begin)
    (subst (λ n. c.args.before * object_count grid + (objects_before grid c.args.kind + index) < n) (sym c.loop-index.invariant.len) within)

pub loop-index-preserved : goal.loop-index-preserved
loop-index-preserved c =
    let grid = c.args.rules.now in
    let before = c.args.before in
    let kind = c.args.kind in
    let index = c.loop-index.index in
    let place = objects_before grid kind + index in
    let old = boxed_slice_items c.loop-index.allowed in
    let small : index < count grid kind = search rules in
    let within : before * object_count grid + place < length old =
    subst (λ n. before * object_count grid + place < n) (sym c.loop-index.invariant.len) (within_table grid before place c.requires.client (kind_span grid kind index small).0) in
    let first : c.objects_before-first.result + index ≡ place = ap (λ n. n + index) c.objects_before-first.ensures.count in
    let begin : before * c.object_count.result + (c.objects_before-first.result + index) ≡ before * object_count grid + place =
    (λ i. before * c.object_count.ensures.count i + (c.objects_before-first.ensures.count i + index)) in
    let all : (r : Right) → has c.rights_at-all.result r ≡ has_at r (slice_get c.args.granted.now (kind_place grid kind)) =
    λ r. c.rights_at-all.ensures r ∙ ap (λ n. has_at r (slice_get c.args.granted.now n)) c.kind_place.ensures in
    let none : (r : Right) → has c.rights_at-none.result r ≡ has_at r (slice_get c.args.denied.now (kind_place grid kind)) =
    λ r. c.rights_at-none.ensures r ∙ ap (λ n. has_at r (slice_get c.args.denied.now n)) c.kind_place-2.ensures in
    let is : (r : Right) → has c.settled-rights.result r ≡ ((has_at r (slice_get c.args.granted.now place) || has c.rights_at-all.result r)
    && not (has_at r (slice_get c.args.denied.now place) || has c.rights_at-none.result r)) =
    λ r. c.settled-rights.ensures r ∙ ap (λ n. (has_at r (slice_get c.args.granted.now n) || has c.rights_at-all.result r)
    && not (has_at r (slice_get c.args.denied.now n) || has c.rights_at-none.result r)) first in
    record {
      filled = λ rows granted denied so_far.
          let next : before * object_count grid + (place + 1) ≡ before * object_count grid + (objects_before grid kind + (index + 1)) = omega arith in
          subst (λ n. IsFilled grid rows n (boxed_slice_items c.put_rights.new.sets)) next
          (subst (λ xs. IsFilled grid rows (before * object_count grid + (place + 1)) xs) (sym (c.put_rights.ensures ∙ ap (λ n. slice_set old n c.settled-rights.result) begin))
          (filled-more grid rows before place old c.settled-rights.result (kind_span grid kind index small).0 within
          (settled_kind grid rows (record { 0 = before + 1 }) c.args.granted.now c.args.denied.now granted denied kind index small c.rights_at-all.result c.rights_at-none.result c.settled-rights.result all none is)
          (c.loop-index.invariant.filled rows granted denied so_far)));
      len = search rules;
    }
