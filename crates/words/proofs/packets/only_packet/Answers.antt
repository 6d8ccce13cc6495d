use Rattle.std.proofs.Common.{sym, ◌∙◌}
use Rattle.words.proofs.Filling.{only_word}
use Rattle.words.proofs.packets.only_packet.Goals as goal

pub returns-in-Some : goal.returns-in-Some
returns-in-Some c = only_word c.skip_blanks.result.now c.in-Some.words c.skip_blanks.ensures.words (sym c.packet.ensures ∙ c.in-Some.is)
