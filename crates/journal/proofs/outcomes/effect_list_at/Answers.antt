use Rattle.std.proofs.Common.{◌-◌, ◌+◌, ap, sym, ◌∙◌, arith}
use Rattle.journal.specs.Words.{seen, words_behind}
use Rattle.journal.specs.Readings.{list_at, effect_at}
use Rattle.journal.proofs.Times.{times_stop, times_more, times_end}
use Rattle.journal.proofs.outcomes.effect_list_at.Goals as goal

pub returns-in_default-2 : goal.returns-in_default-2
returns-in_default-2 c =
    times_stop effect_at (list_at effect_at (words_behind c.args.rest)) c.loop-place.effects.items (c.in-Some.count - c.loop-place._place) (words_behind c.loop-place.left)
    c.loop-place.invariant (omega arith) (sym c.in_ok-effect.ensures ∙ ap seen c.in_default-2.is)

pub loop-place-preserved : goal.loop-place-preserved
loop-place-preserved c =
    times_more effect_at (list_at effect_at (words_behind c.args.rest)) c.loop-place.effects.items c.push.new.self.items (c.in-Some.count - c.loop-place._place)
    (c.in-Some.count - (c.loop-place._place + 1)) (words_behind c.loop-place.left) (words_behind c.in-Some-2.further) c.in-Some-2.effect
    c.loop-place.invariant (omega arith) (sym c.in_ok-effect.ensures ∙ ap seen c.in-Some-2.is) c.in_ok-push.ensures.items

pub returns : goal.returns
returns c =
    times_end effect_at (list_at effect_at (words_behind c.args.rest)) c.loop-place.effects.items (c.in-Some.count - c.loop-place._place) (words_behind c.loop-place.left)
    c.loop-place.invariant (omega arith)
