use Rattle.std.proofs.Common.{◌≡◌, ◌<◌, ◌∙◌, arith, ap}
use Rattle.ring_core.specs.Machine.{word_place}
use Rattle.ring.specs.Places.{table_place}
use Rattle.ring.proofs.Places.{slot_in}
use Rattle.ring.proofs.place.slot_place.Goals as goal

pub table_place-requires : goal.table_place-requires
table_place-requires c =
    let e : c.word_place.result ≡ word_place c.args.size c.args.id 0 = c.word_place.ensures in
    let lt : word_place c.args.size c.args.id 0 < 32770 = (slot_in c.args.size c.args.id c.requires).0 in
    omega (arith, e, lt)

pub returns-clause-place : goal.returns-clause-place
returns-clause-place c = c.table_place.ensures ∙ ap table_place c.word_place.ensures

pub returns-clause-near : goal.returns-clause-near
returns-clause-near c =
    let e : c.table_place.result ≡ table_place (word_place c.args.size c.args.id 0) = c.table_place.ensures ∙ ap table_place c.word_place.ensures in
    let lt : table_place (word_place c.args.size c.args.id 0) < 32816 = (slot_in c.args.size c.args.id c.requires).1 in
    omega (arith, e, lt)
