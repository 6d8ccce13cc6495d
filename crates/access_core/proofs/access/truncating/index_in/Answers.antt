-- The first that has the name is found, or none has it.
use Rattle.std.proofs.Common.{◌∙◌, sym, arith}
use Rattle.access_core.proofs.Retelling.{index-found, index-none}
use Rattle.access_core.proofs.access.truncating.index_in.Goals as goal

pub returns-then-is_told_of : goal.returns-then-is_told_of
returns-then-is_told_of c =
    index-found c.args.packets.now c.args.queue c.args.packet c.packets.index c.index-packets-index.result (omega arith) c.index-packets-index.is (sym c.is_told_of.ensures ∙ c.if-is_told_of.true) c.packets.invariant

pub returns : goal.returns
returns c = index-none c.args.packets.now c.args.queue c.args.packet (λ k d less. c.packets.invariant k d (omega (arith, less)))
