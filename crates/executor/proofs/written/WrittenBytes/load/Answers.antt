use Rattle.std.proofs.Common.{arith, sym}
use Rattle.executor.specs.inner.Pages.{byte_at}
use Rattle.executor.proofs.Maps.{crossed_seen}
use Rattle.executor.proofs.written.WrittenBytes.load.Goals as goal

pub returns : goal.returns
returns c =
    crossed_seen (byte_at c.args.self.now) c.args.address _ c.split_at_mut-first.result.0.now c.split_at_mut-first.result.1.now
    c.load_in_page-2.new.buffer c.load_in_page-3.new.buffer c.args.buffer.now c.load_in_page-2.ensures c.load_in_page-3.ensures
    (sym c.split_at_mut-first.ensures.value) (omega (arith, c.split_at_mut-first.ensures.front_len))
