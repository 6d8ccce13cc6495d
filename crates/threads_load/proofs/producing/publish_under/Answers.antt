use Rattle.std.proofs.Common.{◌∙◌}
use Rattle.ring.specs.Bytes.{words_of}
use Rattle.ring.specs.declared.producer.Publication.TheVariants.{Published, SlotBusy}
use Rattle.threads_load.proofs.Publishing.{only_then}
use Rattle.threads_load.proofs.producing.publish_under.Goals as goal

pub returns-in-Published-clause-only : goal.returns-in-Published-clause-only
returns-in-Published-clause-only g c =
    only_then c.args.broker.now c.args.end.now.pass c.loop-again.end c.publish.new.self c.loop-again.ticket.id.0 (words_of c.args.bytes.now) (Published c.in-Published.field-0)
    c.loop-again.invariant.0 c.loop-again.invariant.2 c.in-Published.ensures.published

pub returns-then-not-tries_again-clause-only : goal.returns-then-not-tries_again-clause-only
returns-then-not-tries_again-clause-only g c =
    only_then c.args.broker.now c.args.end.now.pass c.loop-again.end c.publish.new.self c.loop-again.ticket.id.0 (words_of c.args.bytes.now) (SlotBusy c.in-SlotBusy.back c.in-SlotBusy.field-1)
    c.loop-again.invariant.0 c.loop-again.invariant.2 c.in-SlotBusy.ensures.published

pub loop-again-preserved : goal.loop-again-preserved
loop-again-preserved g c = (
  c.in-SlotBusy.ensures.end,
  c.in-SlotBusy.ensures.given_back,
  only_then c.args.broker.now c.args.end.now.pass c.loop-again.end c.publish.new.self c.loop-again.ticket.id.0 (words_of c.args.bytes.now) (SlotBusy c.in-SlotBusy.back c.in-SlotBusy.field-1)
      c.loop-again.invariant.0 c.loop-again.invariant.2 c.in-SlotBusy.ensures.published,
  c.in-SlotBusy.ensures.queue ∙ c.loop-again.invariant.3,
)
