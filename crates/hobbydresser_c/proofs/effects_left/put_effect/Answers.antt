-- A change is laid as its record and its bytes.
use Rattle.std.proofs.Common.{refl, arith}
use Rattle.aql_packet.specs.Words.{bytes_of}
use Rattle.hobbydresser_c.specs.Effects.{bytes_written, words_of}
use Rattle.hobbydresser_c.specs.Told.{effect_told}
use Rattle.hobbydresser_c.proofs.Laying.{laid-in_two}
use Rattle.hobbydresser_c.proofs.effects_left.put_effect.Goals as goal

pub returns-clause-laid : goal.returns-clause-laid
returns-clause-laid c =
    laid-in_two c.args.out.now c.put.new.out c.put_any.new.out c.record_of.result (bytes_of (words_of (effect_told c.args.effect.now)))
    c.bytes_written-bytes.result.now (bytes_written c.args.effect.now) c.args.at c.record_of.ensures c.bytes_written-bytes.ensures refl
    (omega (arith, c.requires)) c.put.ensures c.put_any.ensures
