use Rattle.std.proofs.Common.{refl, arith}
use Rattle.hsail_reader.proofs.Located.{told_in_time}
use Rattle.hsail_reader.proofs.TextSpelled.{long_is_no_text, short_is_text, told_by_grammar}
use Rattle.hsail_reader.proofs.reading.read_module.Goals as goal

pub returns-in-Err-clause-too_long : goal.returns-in-Err-clause-too_long
returns-in-Err-clause-too_long c =
    (λ e. absurd (told_in_time c.args.text.now c.in-Err.stop c.told.result _ c.told.ensures refl e), λ over. absurd (omega arith))

pub returns-in-Ok-clause-grammar : goal.returns-in-Ok-clause-grammar
returns-in-Ok-clause-grammar c = short_is_text c.args.text.now c.in-Ok.module (omega arith) c.in-Ok.ensures

pub returns-in-Err-clause-grammar : goal.returns-in-Err-clause-grammar
returns-in-Err-clause-grammar c = told_by_grammar c.args.text.now c.in-Err.stop c.told.result c.told.ensures c.in-Err.ensures

pub returns-then-text-gt-MAX_TEXT-clause-grammar : goal.returns-then-text-gt-MAX_TEXT-clause-grammar
returns-then-text-gt-MAX_TEXT-clause-grammar c = long_is_no_text c.args.text.now (omega arith)
