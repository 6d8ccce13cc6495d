use Rattle.std.proofs.Common.{◌<◌, ◌∙◌, length, sym, arith, eqb-true}
use Rattle.executor.proofs.ChunkLemmas.{found_at}
use Rattle.executor.proofs.written.WrittenBytes.stands_at.Goals as goal

pub returns : goal.returns
returns c = λ same.
    let inside : c.args.place < length c.self.inside.chunks.items = omega (arith, c.if-place-len.false, c.len.ensures, c.self.inside.chunks.ok.0) in
    found_at c.args.self.now _ c.self.view_is _ _ _ _ c.self.invariant c.args.number c.args.place
    c.index.result.now c.index.ensures inside (sym c.number.ensures ∙ eqb-true _ _ same)
