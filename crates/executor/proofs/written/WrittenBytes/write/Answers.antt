use Rattle.std.proofs.Common.{◌≡◌, take, ap, subst, ◌∙◌}
use Rattle.std.specs.Prelude.{OnErr}
use Rattle.std.specs.Int.{w64, to_le_bytes}
use Rattle.executor.specs.inner.Pages.{byte_at, BreaksOff}
use Rattle.executor.specs.inner.Words.{laid_if}
use Rattle.executor.proofs.written.WrittenBytes.write.Goals as goal

pub returns-else-overwrite_at_hand-clause-err : goal.returns-else-overwrite_at_hand-clause-err
returns-else-overwrite_at_hand-clause-err c =
    let low = take c.args.size (to_le_bytes w64 c.args.value) in
    let as_before : byte_at c.overwrite_at_hand.new.self ≡ byte_at c.args.self.now =
    λ i. λ x. (c.overwrite_at_hand.ensures x ∙ ap (λ done. laid_if done (byte_at c.args.self.now) c.args.address low x) c.if-overwrite_at_hand.false) i in
    subst (λ at. OnErr c.write_beside.result (BreaksOff at (byte_at c.write_beside.new.self) c.args.address low)) as_before
    c.write_beside.ensures.err
