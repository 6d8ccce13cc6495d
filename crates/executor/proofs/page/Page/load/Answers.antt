use Rattle.std.proofs.Common.{◌∙◌, sym, arith}
use Rattle.executor.specs.inner.Pages.{page_byte}
use Rattle.executor.proofs.Maps.{part_after_some, part_after_none, part_all}
use Rattle.executor.proofs.page.Page.load.Goals as goal
use Rattle.executor.proofs.page.Page.load.Goals.{in-Some, in_default}

pub loop-index-preserved : goal.loop-index-preserved
loop-index-preserved c =
    elim c.match-get.branch [
      | in-Some w ↦
          part_after_some (page_byte c.args.self.now) c.args.place c.loop-index.index w.in-Some.byte c.args.buffer.now
          c.loop-index.buffer c.match-get.buffer c.loop-index.invariant (omega arith) (sym c.get.ensures ∙ w.in-Some.is) w.buffer-is
      | in_default w ↦
          part_after_none (page_byte c.args.self.now) c.args.place c.loop-index.index c.args.buffer.now
          c.loop-index.buffer c.match-get.buffer c.loop-index.invariant (omega arith) (sym c.get.ensures ∙ w.in_default.is) w.buffer-is
    ]

pub returns : goal.returns
returns c = c.loop-index.invariant ∙ part_all (page_byte c.args.self.now) c.args.place c.loop-index.index c.args.buffer.now (omega arith)
