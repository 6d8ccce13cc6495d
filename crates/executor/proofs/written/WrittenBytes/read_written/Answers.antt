use Rattle.std.proofs.Common.{◌∙◌, ◌+◌, ◌%◌, ◌≤◌, length, refl, rules, arith, Some, None}
use Rattle.executor.proofs.ChunkLemmas.{written_number, written_read}
use Rattle.executor.proofs.written.WrittenBytes.read_written.Goals as goal

pub returns-in-Some : goal.returns-in-Some
returns-in-Some c =
    written_number c.args.self.now _ c.self.view_is _ _ _ _ c.self.invariant c.args.address c.args.chunk c.index-found.result.now c.requires.stands c.index-found.ensures
    (length c.args.below.now) c.in-Some.whole.number (omega (arith, c.in-Some.ensures.fits)) c.in-Some.ensures.number c.args.below.now refl

pub returns-in-Some-read : goal.returns-in-Some-read
returns-in-Some-read c =
    let fits : c.args.address % 64 + length c.args.below.now ≤ 64 = search rules in
    written_read c.args.self.now _ c.self.view_is _ _ _ _ c.self.invariant c.args.address c.args.chunk c.index-found.result.now c.requires.stands c.index-found.ensures
    c.args.below.now (Some c.in-Some-read.number) fits c.in-Some-read.ensures

pub returns-in-None : goal.returns-in-None
returns-in-None c =
    let fits : c.args.address % 64 + length c.args.below.now ≤ 64 = search rules in
    c.read-in-None.ensures
    ∙ written_read c.args.self.now _ c.self.view_is _ _ _ _ c.self.invariant c.args.address c.args.chunk c.index-found.result.now c.requires.stands c.index-found.ensures
    c.args.below.now None fits c.in-None.ensures
