use Rattle.std.proofs.Common.{rules, ◌≡◌, ◌∙◌, ◌<◌, List, arith, length, sym, ap, subst}
use Rattle.std.specs.Prelude.{slice_index_or, slice_set}
use Rattle.std.proofs.lemmas.List.{set-get_or}
use Rattle.client_threads.specs.Lanes.{LaneSeen}
use Rattle.client_threads.specs.Sections.{HeldSeen}
use Rattle.client_threads.specs.Settling.{IsShown}
use Rattle.client_threads.specs.inner.Turns.{HasSeen}
use Rattle.client_threads.proofs.Showing.{shown_all, shown_next}
use Rattle.client_threads.proofs.room.Held.show_all.Goals as goal

pub show-requires : goal.show-requires
show-requires g c =
    let place = c.loop-place.place in
    let lane = c.index_mut.result.now in
    let at : lane ≡ slice_index_or c.args.lanes.now.items place lane = c.index_mut.ensures.value ∙ ap (λ (xs : List LaneSeen). slice_index_or xs place lane) c.loop-place.invariant.1 in
    let lt : place < length c.args.lanes.now.items = search rules in
    (c.requires.board, subst (HasSeen g.B.Room.board) (sym at) (c.requires.seen place lane lt))

pub loop-place-preserved : goal.loop-place-preserved
loop-place-preserved g c =
    let opened = g.B.Room.opened in
    let place = c.loop-place.place in
    let lane = c.index_mut.result.now in
    let lanes = c.loop-place.lanes.items in
    let at : lane ≡ slice_index_or c.args.lanes.now.items place lane = c.index_mut.ensures.value ∙ ap (λ (xs : List LaneSeen). slice_index_or xs place lane) c.loop-place.invariant.1 in
    let own : IsShown opened c.args.self.now.left lane = subst (λ (h : HeldSeen). IsShown opened h.left lane) c.loop-place.invariant.0 c.show.ensures.shown in (
      c.show.ensures.same.0 ∙ c.loop-place.invariant.0,
      ap (λ (l : LaneSeen). slice_set lanes place l) (c.show.ensures.same.1 ∙ c.index_mut.ensures.value) ∙ (set-get_or lanes place lane ∙ c.loop-place.invariant.1),
      shown_next opened c.args.self.now.left c.args.lanes.now.items place lane c.loop-place.invariant.2 at own,
    )

pub returns-clause-shown : goal.returns-clause-shown
returns-clause-shown g c = shown_all g.B.Room.opened c.args.self.now.left c.args.lanes.now.items c.loop-place.place (omega arith) c.loop-place.invariant.2
