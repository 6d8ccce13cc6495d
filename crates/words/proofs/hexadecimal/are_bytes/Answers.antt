use Rattle.std.proofs.Common.{sym, ◌∙◌}
use Rattle.words.proofs.Pairing.{is_bytes_bad, is_bytes_end, is_bytes_more}
use Rattle.words.proofs.hexadecimal.are_bytes.Goals as goal

pub returns-in_default-byte : goal.returns-in_default-byte
returns-in_default-byte c =
    sym (c.loop-high.invariant
    ∙ is_bytes_bad c.loop-high.rest.now c.in-Some.high c.in-Some.low c.in-Some.further.now c.in-Some.ensures (sym c.byte.ensures ∙ c.in_default-byte.is))

pub loop-high-preserved : goal.loop-high-preserved
loop-high-preserved c =
    c.loop-high.invariant
    ∙ is_bytes_more c.loop-high.rest.now c.in-Some.high c.in-Some.low _ c.in-Some.further.now c.in-Some.ensures (sym c.byte.ensures ∙ c.in-Some-byte.is)

pub returns : goal.returns
returns c = c.is_empty.ensures ∙ sym (c.loop-high.invariant ∙ is_bytes_end c.loop-high.rest.now c.in_default.ensures)
