-- A hold of the packet is counted no more, and the others stay.
use Rattle.std.proofs.Common.{◌∙◌, ◌+◌, not, ap, sym, subst, filter, take, drop, get_or, arith}
use Rattle.grants.proofs.Terms.{Agent, IsCounted, is_of}
use Rattle.grants.specs.declared.hold.Hold.{Hold}
use Rattle.grants.proofs.CellLemmas.{SameRights-then}
use Rattle.grants.proofs.CountLemmas.{kept_to-here, kept_to-kept, kept_to-dropped, kept_to-all, once-counted, counted_fewer}
use Rattle.grants.proofs.counting.uncount_packet.Goals as goal
use Rattle.grants.proofs.counting.uncount_packet.Goals.{then-is_of, else-is_of}

abbrev none : Hold
none = record { queue = record { 0 = 0 }; packet = record { 0 = 0 }; client = record { 0 = 0 }; object = Agent (record { 0 = 0 }); rights = record { 0 = 0 } }

pub uncount_hold-requires : goal.uncount_hold-requires
uncount_hold-requires c = λ right.
    let keep = λ (hold : Hold). not (is_of c.args.queue c.args.packet hold) in
    once-counted c.loop-hold.table (filter keep (take c.loop-hold.hold-index c.args.holds.now)) (drop (c.loop-hold.hold-index + 1) c.args.holds.now)
    (get_or c.args.holds.now c.loop-hold.hold-index none)
    (subst (λ holds. IsCounted c.loop-hold.table holds) (kept_to-here keep c.args.holds.now c.loop-hold.hold-index none c.loop-hold-test.true) c.loop-hold.invariant.counted) right

pub loop-hold-preserved : goal.loop-hold-preserved
loop-hold-preserved c =
    let keep = λ (hold : Hold). not (is_of c.args.queue c.args.packet hold) in
    let i = c.loop-hold.hold-index in
    let holds = c.args.holds.now in
    elim c.if-is_of.branch [
      | then-is_of w ↦ rw w.table-is (record {
        counted = subst (λ xs. IsCounted w.uncount_hold.new.self xs) (sym (kept_to-dropped keep holds i none c.loop-hold-test.true (ap not (sym c.is_of.ensures ∙ w.if-is_of.true))))
            (counted_fewer c.loop-hold.table w.uncount_hold.new.self (get_or holds i none) (filter keep (take i holds)) (drop (i + 1) holds)
            (subst (λ xs. IsCounted c.loop-hold.table xs) (kept_to-here keep holds i none c.loop-hold-test.true) c.loop-hold.invariant.counted) w.uncount_hold.ensures.counts);
        rights = SameRights-then c.args.table.now c.loop-hold.table w.uncount_hold.new.self c.loop-hold.invariant.rights w.uncount_hold.ensures.rights;
      })
      | else-is_of w ↦ rw w.table-is (record {
        counted = subst (λ xs. IsCounted c.loop-hold.table xs) (sym (kept_to-kept keep holds i none c.loop-hold-test.true (ap not (sym c.is_of.ensures ∙ w.if-is_of.false))))
            c.loop-hold.invariant.counted;
        rights = c.loop-hold.invariant.rights;
      })
    ]

pub returns : goal.returns
returns = grind (arith, kept_to-all)
