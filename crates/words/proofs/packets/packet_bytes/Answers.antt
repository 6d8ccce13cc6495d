use Rattle.std.proofs.Common.{◌≡◌, ◌+◌, ◌*◌, length, take, sym, ap, ◌∙◌, rules, arith}
use Rattle.std.proofs.lemmas.Simd.{length-put_chunk, take_more_put_chunk}
use Rattle.words.proofs.Checking.{none_more, packet_read, read_more}
use Rattle.words.proofs.Filling.{packet_other}
use Rattle.words.proofs.packets.packet_bytes.Goals as goal

pub returns-then-word-ne128 : goal.returns-then-word-ne128
returns-then-word-ne128 c = sym (packet_other c.args.word.now c.if-word-ne128.true)

pub returns-in_default : goal.returns-in_default
returns-in_default c = sym (none_more c.args.word.now c.loop-part.bytes c.loop-part.part c.loop-part.invariant.0 c.if-word-ne128.false (omega arith) c.in_default.ensures)

pub loop-part-preserved : goal.loop-part-preserved
loop-part-preserved c =
    let full : length c.loop-part.bytes ≡ 64 = c.loop-part.invariant.1 in
    let sixteen : length c.in-Some.read ≡ 16 = search rules in
    let fuller = c.lay_sixteen.new.bytes in (
      read_more c.args.word.now c.loop-part.bytes fuller c.in-Some.read c.loop-part.part c.loop-part.invariant.0 c.if-word-ne128.false (omega arith) c.in-Some.ensures
          (ap (take (16 * (c.loop-part.part + 1))) c.lay_sixteen.ensures
          ∙ take_more_put_chunk (16 * c.loop-part.part) c.loop-part.bytes c.in-Some.read (16 * (c.loop-part.part + 1)) (omega (arith, sixteen)) (omega (arith, full))),
      ap length c.lay_sixteen.ensures ∙ length-put_chunk (16 * c.loop-part.part) c.loop-part.bytes c.in-Some.read ∙ full,
    )

pub returns : goal.returns
returns c = sym (packet_read c.args.word.now c.loop-part.bytes c.loop-part.part c.loop-part.invariant.0 (omega arith) c.if-word-ne128.false c.loop-part.invariant.1)
