-- None of the forms so far begins with the word.
use Rattle.std.proofs.Common.{◌≡◌, length, map}
use Rattle.script.specs.Forms.{form_view, verb_among}
use Rattle.script.proofs.forms.verb_among.Given as goal

abbrev pub invariant-loop-rest : goal.invariant-loop-rest
invariant-loop-rest l = verb_among (map form_view l.rest) l.word ≡ verb_among (map form_view l.forms) l.word

abbrev pub decreases-loop-rest : goal.decreases-loop-rest
decreases-loop-rest l = length l.rest
