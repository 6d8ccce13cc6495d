use Rattle.std.proofs.Common.{ap, ◌∙◌, ◌≡◌, [], length}
use Rattle.ring.specs.Places.{words_seen, table_count}
use Rattle.ring.specs.Shares.{shape_of}
use Rattle.ring_core.specs.Machine.{opened}
use Rattle.ring.proofs.Kept.{kept_first}
use Rattle.ring.proofs.ring.with_one_seat.Goals as goal

pub of_words-requires : goal.of_words-requires
of_words-requires c =
    let e : words_seen c.as_slice.result.now ≡ (opened c.args.size 0).words = ap words_seen c.as_slice.ensures.value ∙ c.in_ok-words.ensures.seen in
    kept_first {S = Unit {0}} (shape_of c.args.size c.args.producers) c.as_slice.result.now [] e

pub invariant_of-ring : goal.invariant_of-ring
invariant_of-ring c =
    let l : length c.as_slice.result.now ≡ table_count c.args.size = ap length c.as_slice.ensures.value ∙ c.in_ok-words.ensures.count in
    let got = c.in_ok-table.ensures in
    record { made_for = got.5; words = got.0 ∙ l; no_slots = got.1; fits = c.requires.size; few = c.requires.producers }
