use Rattle.std.proofs.Common.{rules, ◌≡◌, ◌+◌, ◌^◌, ◌<◌, ◌∙◌, ℕ, List, ◌∷◌, length, get_or, set, false, refl, arith, sym, ap, subst, get_or-set_other, length-set}
use Rattle.ring_core.specs.declared.access.Access.TheVariants.{LoadHeader}
use Rattle.ring_core.specs.declared.access.Made.{Made}
use Rattle.ring_core.specs.Words.{is_invalid}
use Rattle.aql_packet.specs.Ring.{is_ring_size}
use Rattle.ring_core.specs.Machine.{word_place}
use Rattle.ring.specs.Places.{table_place}
use Rattle.ring_core.proofs.Sizes.{ring_size_bounds}
use Rattle.ring.specs.Made.{read}
use Rattle.ring.specs.inner.Halfway.{body_read}
use Rattle.ring.specs.Steps.{HasGained}
use Rattle.ring.proofs.Gains.{gained_none, gained_more, one_after}
use Rattle.ring.proofs.Loading.{ready_load, read_more}
use Rattle.ring.proofs.ring.Ring.load_packet.Goals as goal

pub loop-before-init : goal.loop-before-init
loop-before-init c = (refl, refl, refl, gained_none c.args.self.now.size c.args.self.now.producers c.load-header.new.seat.me (one_after c.args.self.now.size c.args.self.now.producers c.args.seat.now.me c.load-header.new.seat.me _ c.load-header.ensures.told))

pub overflow_add-slot : goal.overflow_add-slot
overflow_add-slot c =
    let near : c.slot_place-slot.result < 2 ^ 16 = c.slot_place-slot.ensures.near in
    let t : c.loop-before.before < 7 = c.loop-before-test.true in
    omega (arith, near, t)

pub load-requires-clause-ready : goal.load-requires-clause-ready
load-requires-clause-ready c =
    let ring = c.args.self.now in
    let pos : 0 < ring.size = (ring_size_bounds ring.size (ap (λ r. is_ring_size r.size) (sym c.self.view_is) ∙ c.self.invariant.fits)).0 in
    let slot : c.slot_place-slot.result ≡ table_place (word_place ring.size c.args.next 0) = c.slot_place-slot.ensures.place ∙ ap (λ r. table_place (word_place r.size c.args.next 0)) c.self.view_is in
    let valid : is_invalid c.load-header.result ≡ false = search rules in
    ready_load ring c.args.seat.now.me c.load-header.new.seat.me c.args.next c.load-header.result c.slot_place-slot.result c.requires.loadable pos slot valid c.load-header.ensures.told c.loop-before.words c.loop-before.before c.loop-before.seat.me c.loop-before.invariant.3 c.loop-before-test.true

pub loop-before-preserved : goal.loop-before-preserved
loop-before-preserved c =
    let size : ℕ = c.args.self.now.size in
    let producers : ℕ = c.args.self.now.producers in
    let k : ℕ = c.loop-before.before in
    let t : k < 7 = c.loop-before-test.true in
    let n : length c.loop-before.words ≡ 8 = c.loop-before.invariant.1 in
    let more : HasGained size producers c.load-header.new.seat.me (body_read (set c.loop-before.words (k + 1) c.load.result) (k + 1)) c.load.new.seat.me =
    subst (λ (made : List Made). HasGained size producers c.load-header.new.seat.me made c.load.new.seat.me) (sym (read_more c.loop-before.words c.load.result k (omega (arith, n, t))))
    (gained_more size producers c.load-header.new.seat.me c.loop-before.seat.me c.load.new.seat.me _ _ c.loop-before.invariant.3 c.load.ensures.told) in (
      c.load.ensures.seat ∙ c.loop-before.invariant.0,
      length-set c.loop-before.words (k + 1) c.load.result ∙ n,
      get_or-set_other c.loop-before.words (k + 1) 0 c.load.result 0 (λ e. absurd (omega (arith, e))) ∙ c.loop-before.invariant.2,
      more,
    )

pub returns-clause-loaded : goal.returns-clause-loaded
returns-clause-loaded c =
    let size : ℕ = c.args.self.now.size in
    let producers : ℕ = c.args.self.now.producers in
    let all : c.loop-before.before ≡ 7 = omega (arith, c.loop-before-test.false, c.loop-before.auto.before-end) in
    let header : get_or c.loop-before.words 0 0 ≡ c.load-header.result = c.loop-before.invariant.2 in
    let valid : is_invalid c.load-header.result ≡ false = search rules in
    let h : HasGained size producers c.load-header.new.seat.me (body_read c.loop-before.words 7) c.loop-before.seat.me =
    subst (λ (n : ℕ). HasGained size producers c.load-header.new.seat.me (body_read c.loop-before.words n) c.loop-before.seat.me) all c.loop-before.invariant.3 in
    let both = gained_more size producers c.args.seat.now.me c.load-header.new.seat.me c.loop-before.seat.me _ _ c.load-header.ensures.told h in (
      c.loop-before.invariant.1,
      ap is_invalid header ∙ valid,
      subst (λ (w : ℕ). HasGained size producers c.args.seat.now.me (read LoadHeader w ∷ body_read c.loop-before.words 7) c.loop-before.seat.me) (sym header) both,
    )
