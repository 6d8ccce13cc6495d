use Rattle.std.proofs.Common.{sym, ◌∙◌}
use Rattle.words.specs.Bytes.{bytes_word}
use Rattle.words.proofs.Pairing.{bytes_lone, bytes_bad, bytes_more, bytes_none, bytes_all}
use Rattle.words.proofs.hexadecimal.bytes.Goals as goal

pub returns-in_default-split_first : goal.returns-in_default-split_first
returns-in_default-split_first c =
    bytes_none (bytes_word c.args.word.now) c.loop-high.read.items c.loop-high.rest.now c.loop-high.invariant
    (bytes_lone c.loop-high.rest.now c.in-Some.high.now c.in-Some.further.now c.in-Some.ensures.cases.0 c.in_default-split_first.ensures.cases)

pub returns-in_default-byte : goal.returns-in_default-byte
returns-in_default-byte c =
    bytes_none (bytes_word c.args.word.now) c.loop-high.read.items c.loop-high.rest.now c.loop-high.invariant
    (bytes_bad c.loop-high.rest.now c.in-Some.high.now c.in-Some-split_first.low.now c.in-Some.further.now c.in-Some-split_first.further.now
    c.in-Some.ensures.cases.0 c.in-Some-split_first.ensures.cases.0 (sym c.byte.ensures ∙ c.in_default-byte.is))

pub loop-high-preserved : goal.loop-high-preserved
loop-high-preserved c =
    bytes_more (bytes_word c.args.word.now) c.loop-high.read.items c.push.new.self.items c.loop-high.rest.now c.in-Some.high.now c.in-Some-split_first.low.now
    c.in-Some-byte.byte c.in-Some.further.now c.in-Some-split_first.further.now c.loop-high.invariant
    c.in-Some.ensures.cases.0 c.in-Some-split_first.ensures.cases.0 (sym c.byte.ensures ∙ c.in-Some-byte.is) c.in_ok-push.ensures.items

pub returns : goal.returns
returns c = bytes_all (bytes_word c.args.word.now) c.loop-high.read.items c.loop-high.rest.now c.loop-high.invariant c.in_default.ensures.cases
