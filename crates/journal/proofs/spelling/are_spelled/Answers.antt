use Rattle.std.proofs.Common.{◌≡◌, length, sym, ◌∙◌, arith}
use Rattle.std.specs.Prelude.{◌==◌}
use Rattle.std.proofs.lemmas.Bool.Decides.{nat_tests}
use Rattle.journal.proofs.Spelled.{spelled_all, spelled_more, spelled_other, spelled_short}
use Rattle.journal.proofs.spelling.are_spelled.Goals as goal

pub returns-in_default : goal.returns-in_default
returns-in_default c =
    sym (c.loop-byte.invariant ∙ spelled_short c.loop-byte.rest.now c.args.bytes.now c.loop-byte.byte-index (omega arith) c.in_default.ensures)

pub returns-else-are_digits_of : goal.returns-else-are_digits_of
returns-else-are_digits_of c =
    sym (c.loop-byte.invariant
    ∙ spelled_other c.loop-byte.rest.now c.in-Some.further.now c.args.bytes.now c.loop-byte.byte-index c.in-Some.high c.in-Some.low (omega arith)
    c.in-Some.ensures (sym c.are_digits_of.ensures ∙ c.if-are_digits_of.false))

pub loop-byte-preserved : goal.loop-byte-preserved
loop-byte-preserved c =
    c.loop-byte.invariant
    ∙ spelled_more c.loop-byte.rest.now c.in-Some.further.now c.args.bytes.now c.loop-byte.byte-index c.in-Some.high c.in-Some.low (omega arith)
    c.in-Some.ensures (sym c.are_digits_of.ensures ∙ c.if-are_digits_of.true)

pub returns : goal.returns
returns c =
    let same : (length c.loop-byte.rest.now == 0) ≡ c.is_empty.result = grind (arith, nat_tests, c.is_empty.ensures) in
    sym (c.loop-byte.invariant ∙ spelled_all c.loop-byte.rest.now c.args.bytes.now c.loop-byte.byte-index (omega arith) ∙ same)
