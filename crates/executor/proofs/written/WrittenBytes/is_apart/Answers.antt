use Rattle.std.proofs.Common.{subst}
use Rattle.executor.specs.inner.Pages.{IsApart}
use Rattle.executor.proofs.ChunkLemmas.{apart_before, apart_behind}
use Rattle.executor.proofs.written.WrittenBytes.is_apart.Goals as goal

pub returns-then-number-self : goal.returns-then-number-self
returns-then-number-self c =
    λ yes. subst (λ v. IsApart v c.args.number) c.self.view_is (apart_before c.self.inside.chunks.items _ _ _ _ c.args.number c.self.invariant c.if-number-self.true)

pub returns-then-number-self-2 : goal.returns-then-number-self-2
returns-then-number-self-2 c =
    λ yes. subst (λ v. IsApart v c.args.number) c.self.view_is (apart_behind c.self.inside.chunks.items _ _ _ _ c.args.number c.self.invariant c.if-number-self-2.true)
