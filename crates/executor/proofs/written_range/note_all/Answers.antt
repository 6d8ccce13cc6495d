use Rattle.std.proofs.Common.{◌≡◌, ◌<◌, ◌-◌, true, false, length, sym, ◌∙◌, ap, arith, ◌++◌, ◌∷◌, []}
use Rattle.executor.specs.inner.Told.{adjoins_last}
use Rattle.executor.proofs.RunLemmas.{noted_apart, noted_pushed, has_last}
use Rattle.executor.proofs.written_range.note_all.Goals as goal

pub returns-then-does_adjoin : goal.returns-then-does_adjoin
returns-then-does_adjoin c =
    let adjoins : adjoins_last c.args.runs.now.items c.args.address ≡ true = ap (λ rs. adjoins_last rs c.args.address) (sym c.as_slice.ensures.value) ∙ sym c.if-does_adjoin.ensures in
    let some : 0 < length c.args.runs.now.items = has_last c.args.runs.now.items c.args.address adjoins in
    noted_pushed c.push_all.result c.args.runs.now.items c.args.address c.args.bytes.now (c.len-last.result - 1) c.index_mut.result.now c.push_all.new.self
    adjoins (omega arith) (c.index_mut.ensures.value) c.push_all.ensures.address c.push_all.ensures.bytes

pub returns : goal.returns
returns c =
    let adjoins : adjoins_last c.args.runs.now.items c.args.address ≡ false = ap (λ rs. adjoins_last rs c.args.address) (sym c.as_slice.ensures.value) ∙ sym c.if-does_adjoin.ensures in
    let same : c.from_vec-bytes.result ≡ c.args.bytes.now = c.from_vec-bytes.ensures ∙ c.in_ok-from_slice.ensures.items in
    c.in_ok-push.ensures.items
    ∙ (ap (λ b. c.args.runs.now.items ++ record { address = c.args.address; bytes = b } ∷ []) same
    ∙ noted_apart c.args.runs.now.items c.args.address c.args.bytes.now adjoins)
