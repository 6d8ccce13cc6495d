use Rattle.std.proofs.Common.{◌∙◌, ◌++◌, ap, sym}
use Rattle.ring_core.specs.inner.Together.{publication_changes}
use Rattle.ring_core.proofs.Opened.{open_rises, published_keeps, published_missed, told_open, changes_show}
use Rattle.ring_core.proofs.tickets.Tickets.publish_whole.Goals as goal

pub close-requires : goal.close-requires
close-requires c = open_rises _ c.self.inside.changes c.self.invariant

pub invariant_of-self : goal.invariant_of-self
invariant_of-self c = published_missed c.args.id _ _ c.self.inside.changes _ c.self.invariant c.self.view_is c.close.ensures.found _ c.if-not-close.true c.close.ensures.rest

pub returns-then-not-close : goal.returns-then-not-close
returns-then-not-close c = (sym c.if-not-close.true ∙ told_open c.args.id _ _ c.self.inside.changes _ c.self.invariant c.self.view_is c.close.ensures.found, c.self.view_is)

pub invariant_of-self-2 : goal.invariant_of-self-2
invariant_of-self-2 c =
    published_keeps c.args.id _ _ c.self.inside.changes _ c.self.invariant c.self.view_is c.close.ensures.found c.args.read_index c.args.words.now c.publication_changes.result _ c.push_all.new.self
    c.if-not-close.false c.close.ensures.rest c.close.ensures.eight c.publication_changes.ensures c.push_all.ensures

pub returns : goal.returns
returns c = (
  sym c.if-not-close.false ∙ told_open c.args.id _ _ c.self.inside.changes _ c.self.invariant c.self.view_is c.close.ensures.found,
  changes_show c.args.id _ _ c.self.inside.changes _ c.self.invariant c.self.view_is c.close.ensures.found (publication_changes c.args.id c.args.read_index c.args.words.now) c.push_all.new.self
      (c.push_all.ensures ∙ ap (λ cs. c.self.inside.changes ++ cs) c.publication_changes.ensures),
)
