use Rattle.std.proofs.Common.{ap, length, ◌∙◌}
use Rattle.std.specs.Prelude.{◌==◌, ◌&&◌}
use Rattle.words.proofs.Filling.{is_eight}
use Rattle.words.proofs.packets.is_packet_word.Goals as goal

pub returns : goal.returns
returns c = ap (λ b. b && (length c.args.word.now == 16)) c.are_bytes.ensures ∙ is_eight c.args.word.now
