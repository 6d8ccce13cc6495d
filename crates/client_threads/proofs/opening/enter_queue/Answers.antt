use Rattle.std.proofs.Common.{◌≡◌, ◌∙◌, ◌++◌, ◌∷◌, [], List, map, sym, ap, subst}
use Rattle.std.proofs.lemmas.List.{map_push}
use Rattle.client_threads.specs.declared.broker.Desk.{Desk}
use Rattle.client_threads.specs.Desks.{seen}
use Rattle.client_threads.specs.Rings.{AreApart}
use Rattle.client_threads.proofs.Opened.{entered_apart}
use Rattle.client_threads.proofs.opening.enter_queue.Goals as goal

pub returns-in-Ok-clause-apart : goal.returns-in-Ok-clause-apart
returns-in-Ok-clause-apart c =
    let old = map seen c.args.desks.now.items in
    let items : map seen c.push_reserved.new.self.items ≡ old ++ seen c.args.made.desk ∷ [] = ap (λ (ds : List Desk). map seen ds) c.push_reserved.ensures.items ∙ map_push seen c.args.desks.now.items c.args.made.desk in
    subst AreApart (sym items) (entered_apart c.args.core.now.history c.args.client c.args.agent c.args.size old c.args.made c.requires.openable c.requires.fresh c.requires.apart)
