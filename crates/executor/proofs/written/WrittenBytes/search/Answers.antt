use Rattle.std.proofs.Common.{◌≢◌, ◌<◌, ◌∙◌, length, sym, arith}
use Rattle.executor.proofs.ChunkLemmas.{found_at, missed_other}
use Rattle.executor.proofs.written.WrittenBytes.search.Goals as goal

pub returns-then-found-number : goal.returns-then-found-number
returns-then-found-number c =
    let inside : c.place_from-place.result < length c.self.inside.chunks.items = omega (arith, c.if-place-len.false, c.len.ensures, c.self.inside.chunks.ok.0) in
    found_at c.args.self.now _ c.self.view_is _ _ _ _ c.self.invariant c.args.number c.place_from-place.result
    c.index.result.now c.index.ensures inside (sym c.number-found.ensures ∙ c.if-found-number.true)

pub returns-else-found-number : goal.returns-else-found-number
returns-else-found-number c =
    let inside : c.place_from-place.result < length c.self.inside.chunks.items = omega (arith, c.if-place-len.false, c.len.ensures, c.self.inside.chunks.ok.0) in
    let other : c.index.result.now.number ≢ c.args.number = λ e. absurd (omega (arith, c.if-found-number.false, c.number-found.ensures, e)) in
    missed_other c.args.self.now _ c.self.view_is _ _ _ _ c.self.invariant c.args.number c.place_from-place.result c.place_from-place.ensures
    c.index.result.now c.index.ensures inside other
