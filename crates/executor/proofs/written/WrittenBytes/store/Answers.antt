use Rattle.std.proofs.Common.{◌≡◌, ℕ, arith}
use Rattle.executor.specs.inner.Pages.{byte_at}
use Rattle.executor.specs.Written.{laid}
use Rattle.executor.proofs.Maps.{crossed_laid, ok_then, split_whole}
use Rattle.executor.proofs.written.WrittenBytes.store.Goals as goal

pub returns-clause-ok : goal.returns-clause-ok
returns-clause-ok c =
    ok_then c.store_in_page-3.result _ ((x : ℕ) → byte_at c.store_in_page-3.new.self x ≡ laid (byte_at c.args.self.now) c.args.address c.args.bytes.now x) c.store_in_page-3.ensures.ok
    (crossed_laid (byte_at c.args.self.now) (byte_at c.store_in_page-2.new.self) (byte_at c.store_in_page-3.new.self) c.args.address _
    c.split_at.result.0.now c.split_at.result.1.now c.args.bytes.now c.in_ok-store_in_page.ensures.ok
    (split_whole _ c.args.bytes.now c.split_at.result.0.now c.split_at.result.1.now c.split_at.ensures.front c.split_at.ensures.back)
    (omega (arith, c.split_at.ensures.front_len)))
