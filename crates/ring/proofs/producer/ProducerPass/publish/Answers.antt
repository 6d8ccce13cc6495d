use Rattle.std.proofs.Common.{rules, ◌≡◌, ◌+◌, ◌<◌, ◌∙◌, ℕ, List, [], ◌∷◌, true, false, refl, sym, ap, subst}
use Rattle.std.specs.Prelude.{is_some, nat_lt, get_or}
use Rattle.ring_core.specs.declared.part.SeatPart.TheVariants.{Producer}
use Rattle.ring_core.specs.Words.{is_invalid}
use Rattle.aql_packet.specs.Ring.{is_ring_size}
use Rattle.ring_core.specs.Tickets.{open_ticket, has_room}
use Rattle.ring_core.specs.declared.access.Access.TheVariants.{LoadReadIndex}
use Rattle.ring_core.proofs.Sizes.{ring_size_bounds}
use Rattle.ring.specs.Bytes.{words_of}
use Rattle.ring.specs.Made.{Gained, publication, read}
use Rattle.ring.specs.Passes.{ProducerSeen, as_producer, only_part}
use Rattle.ring.proofs.Passes.{looked, looked_open, looked_others, fillable, published, published_others}
use Rattle.ring.proofs.producer.ProducerPass.publish.Goals as goal

pub returns-then-not-has_room-clause-published : goal.returns-then-not-has_room-clause-published
returns-then-not-has_room-clause-published c =
    let ring = c.args.ring.now in
    let id : ℕ = c.args.ticket.id.0 in
    let seen : ℕ = c.load-read_index.result in
    let pos : 0 < ring.size = (ring_size_bounds ring.size (ap (λ r. is_ring_size r.size) (sym c.ring.view_is) ∙ c.ring.invariant.fits)).0 in
    let was : is_some (open_ticket id (as_producer (only_part c.self.inside.seat.me.0)).tickets) ≡ true = ap (λ v. is_some (open_ticket id v.part.tickets)) c.self.view_is ∙ c.requires.opened in
    let full : has_room ring.size id seen ≡ false = search rules in
    let valid : is_invalid (get_or (words_of c.args.bytes.now) 0 0) ≡ false = search rules in
    let steps = looked ring.size ring.producers c.self.inside.number c.self.inside.allowance id seen c.self.inside.seat.me c.load-read_index.new.seat.me pos c.self.invariant was c.load-read_index.ensures.told in
    let after = as_producer (only_part c.load-read_index.new.seat.me.0) in (
      refl,
      valid,
      full,
      (
        c.load-read_index.ensures.seat ∙ ap (λ v. v.table) c.self.view_is,
        ap (λ v. v.number) c.self.view_is,
        subst (λ (v : ProducerSeen). Gained ring.size ring.producers v.number (Producer v.part) (read (LoadReadIndex (record { 0 = id })) seen ∷ []) (Producer after)) c.self.view_is steps.gained,
      ),
    )

pub returns-then-not-has_room-clause-given_back : goal.returns-then-not-has_room-clause-given_back
returns-then-not-has_room-clause-given_back c =
    let ring = c.args.ring.now in
    let id : ℕ = c.args.ticket.id.0 in
    let pos : 0 < ring.size = (ring_size_bounds ring.size (ap (λ r. is_ring_size r.size) (sym c.ring.view_is) ∙ c.ring.invariant.fits)).0 in
    let was : is_some (open_ticket id (as_producer (only_part c.self.inside.seat.me.0)).tickets) ≡ true = ap (λ v. is_some (open_ticket id v.part.tickets)) c.self.view_is ∙ c.requires.opened in
    looked_open ring.size ring.producers c.self.inside.number c.self.inside.allowance id c.load-read_index.result c.self.inside.seat.me c.load-read_index.new.seat.me pos c.self.invariant was c.load-read_index.ensures.told

pub returns-then-not-has_room-clause-others : goal.returns-then-not-has_room-clause-others
returns-then-not-has_room-clause-others c =
    let ring = c.args.ring.now in
    let id : ℕ = c.args.ticket.id.0 in
    let pos : 0 < ring.size = (ring_size_bounds ring.size (ap (λ r. is_ring_size r.size) (sym c.ring.view_is) ∙ c.ring.invariant.fits)).0 in
    let was : is_some (open_ticket id (as_producer (only_part c.self.inside.seat.me.0)).tickets) ≡ true = ap (λ v. is_some (open_ticket id v.part.tickets)) c.self.view_is ∙ c.requires.opened in
    λ j ne is_open.
    looked_others ring.size ring.producers c.self.inside.number c.self.inside.allowance id c.load-read_index.result c.self.inside.seat.me c.load-read_index.new.seat.me pos c.self.invariant was c.load-read_index.ensures.told
    j ne (ap (λ v. is_some (open_ticket j v.part.tickets)) c.self.view_is ∙ is_open)

pub store_packet-requires-clause-fillable : goal.store_packet-requires-clause-fillable
store_packet-requires-clause-fillable c =
    let ring = c.args.ring.now in
    let id : ℕ = c.args.ticket.id.0 in
    let pos : 0 < ring.size = (ring_size_bounds ring.size (ap (λ r. is_ring_size r.size) (sym c.ring.view_is) ∙ c.ring.invariant.fits)).0 in
    let was : is_some (open_ticket id (as_producer (only_part c.self.inside.seat.me.0)).tickets) ≡ true = ap (λ v. is_some (open_ticket id v.part.tickets)) c.self.view_is ∙ c.requires.opened in
    let room : nat_lt id (c.load-read_index.result + ring.size) ≡ true = search rules in
    fillable ring.size ring.producers c.self.inside.number c.self.inside.allowance id c.load-read_index.result c.self.inside.seat.me c.load-read_index.new.seat.me pos c.self.invariant was c.load-read_index.ensures.told room

pub returns-clause-published : goal.returns-clause-published
returns-clause-published c =
    let ring = c.args.ring.now in
    let id : ℕ = c.args.ticket.id.0 in
    let seen : ℕ = c.load-read_index.result in
    let pos : 0 < ring.size = (ring_size_bounds ring.size (ap (λ r. is_ring_size r.size) (sym c.ring.view_is) ∙ c.ring.invariant.fits)).0 in
    let was : is_some (open_ticket id (as_producer (only_part c.self.inside.seat.me.0)).tickets) ≡ true = ap (λ v. is_some (open_ticket id v.part.tickets)) c.self.view_is ∙ c.requires.opened in
    let room : nat_lt id (seen + ring.size) ≡ true = search rules in
    let words : c.words_of-words.result ≡ words_of c.args.bytes.now = c.words_of-words.ensures in
    let valid : is_invalid (get_or (words_of c.args.bytes.now) 0 0) ≡ false = search rules in
    let steps = published ring.size ring.producers c.self.inside.number c.self.inside.allowance id seen c.self.inside.seat.me c.load-read_index.new.seat.me pos c.self.invariant was c.load-read_index.ensures.told c.words_of-words.result c.store_packet.new.seat.me c.store_packet.ensures.gained in
    let after = as_producer (only_part c.store_packet.new.seat.me.0) in (
      refl,
      valid,
      (
        seen,
        room,
        (
          c.store_packet.ensures.seat ∙ c.load-read_index.ensures.seat ∙ ap (λ v. v.table) c.self.view_is,
          ap (λ v. v.number) c.self.view_is,
          subst (λ (v : ProducerSeen). Gained ring.size ring.producers v.number (Producer v.part) (publication id seen (words_of c.args.bytes.now)) (Producer after)) c.self.view_is
              (subst (λ (ws : List ℕ). Gained ring.size ring.producers c.self.inside.number (Producer (as_producer (only_part c.self.inside.seat.me.0))) (publication id seen ws) (Producer after)) words steps.gained),
        ),
      ),
    )

pub returns-clause-others : goal.returns-clause-others
returns-clause-others c =
    let ring = c.args.ring.now in
    let id : ℕ = c.args.ticket.id.0 in
    let pos : 0 < ring.size = (ring_size_bounds ring.size (ap (λ r. is_ring_size r.size) (sym c.ring.view_is) ∙ c.ring.invariant.fits)).0 in
    let was : is_some (open_ticket id (as_producer (only_part c.self.inside.seat.me.0)).tickets) ≡ true = ap (λ v. is_some (open_ticket id v.part.tickets)) c.self.view_is ∙ c.requires.opened in
    λ j ne is_open.
    published_others ring.size ring.producers c.self.inside.number c.self.inside.allowance id c.load-read_index.result c.self.inside.seat.me c.load-read_index.new.seat.me pos c.self.invariant was c.load-read_index.ensures.told
    c.words_of-words.result c.store_packet.new.seat.me c.store_packet.ensures.gained
    j ne (ap (λ v. is_some (open_ticket j v.part.tickets)) c.self.view_is ∙ is_open)
