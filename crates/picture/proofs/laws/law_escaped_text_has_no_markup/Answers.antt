-- No byte of an escaped text is markup.
use Rattle.picture.proofs.Plain.{no_markup}
use Rattle.picture.proofs.laws.law_escaped_text_has_no_markup.Goals as goal

pub returns : goal.returns
returns c = no_markup
