use Rattle.std.proofs.Common.{◌≡◌, ◌+◌, ◌*◌, ◌<◌, ◌∙◌, ℕ, true, arith, sym, ap, subst}
use Rattle.atomic_table.specs.Table.{Allows}
use Rattle.ring_core.specs.declared.access.Access.{Access}
use Rattle.aql_packet.specs.Ring.{is_ring_size}
use Rattle.ring_core.specs.Machine.{is_producer_count}
use Rattle.ring.specs.Passes.{only_part}
use Rattle.ring.specs.Shares.{shape_of, IsKept}
use Rattle.ring.specs.Steps.{IsTold}
use Rattle.ring.proofs.Facts.{inside}
use Rattle.ring.proofs.Kept.{loads}
use Rattle.ring.proofs.ring.Ring.load_as.Goals as goal

pub load-requires : goal.load-requires
load-requires g c =
    let v = c.self.view_is in
    let ring = c.args.self.now in
    let ready = c.requires.ready in
    let is : c.self.inside.table.shared.key ≡ shape_of ring.size ring.producers = c.self.invariant.made_for ∙ (λ i. shape_of (v i).size (v i).producers) in
    let fits : is_ring_size ring.size ≡ true = subst (λ (n : ℕ). is_ring_size n ≡ true) (ap (λ r. r.size) v) c.self.invariant.fits in
    let count : is_producer_count ring.producers ≡ true = subst (λ (n : ℕ). is_producer_count n ≡ true) (ap (λ r. r.producers) v) c.self.invariant.few in
    let near : c.args.place < 48 + 8 * ring.size = inside ring.size (only_part c.args.seat.now.me.0) c.args.access c.args.place fits ready.may ready.lies in
    let same : c.self.inside.size ≡ ring.size = ap (λ r. r.size) v in
    let call = c.requires.call in (
      c.requires.table ∙ sym (ap (λ r. r.table) v),
      omega (arith, near, c.self.invariant.words, same),
      subst (λ (t : ℕ × ℕ × Access). Allows (IsKept c.self.inside.table.shared.key) c.self.inside.table.shared.table_id.slots c.args.seat.now.id c.args.seat.now.me c.args.place (λ n. n) (λ n after. IsTold t.0 t.1 t.2 c.args.seat.now.me n after))
          (λ i. (sym call.0 i, sym call.1 i, sym call.2 i))
          (loads ring c.args.seat.now.me c.args.access c.args.place c.args.seat.now.id c.self.inside.table.shared.table_id.slots c.self.inside.table.shared.key is fits count ready c.requires.kind),
    )
