-- Several accesses of a seat, noted all at once.
use Rattle.std.proofs.Common.{◌≡◌, ℕ, Bool, true, false, List, [], ◌∷◌, ◌++◌, length, get_or, refl, ap, ◌∙◌, sym, subst, arith, append_assoc, append-nil}
use Rattle.std.specs.Prelude.{Option, Some, None, slice_index, slice_set, if◌then◌else◌}
use Rattle.std.specs.List.{fold}
use Rattle.ring_core.specs.declared.access.Made.{Made}
use Rattle.ring_core.specs.declared.part.SeatPart.TheVariants.{Producer, Processor}
use Rattle.ring_core.specs.declared.part.ProcessorPart.{ProcessorPart}
use Rattle.ring_core.specs.declared.part.ProducerPart.{ProducerPart}
use Rattle.aql_packet.specs.declared.ids.PacketId.{PacketId}
use Rattle.ring_core.specs.declared.ticket.HeldTicket.{HeldTicket}
use Rattle.ring_core.specs.Tickets.{after_change}
use Rattle.ring_core.specs.inner.Together.{publication_changes}
use Rattle.ring_core.specs.Calls.{publication, showing}
use Rattle.ring_core.specs.Runs.{after_own, all_known}
use Rattle.ring_core.specs.Words.{is_invalid}

-- noted one by one is noted at once
pub noted_all : (steps mades : List Made) → fold (λ (all : List Made) (one : Made). all ++ one ∷ []) steps mades ≡ steps ++ mades
noted_all steps [] = sym (append-nil steps)
noted_all steps (one ∷ more) = noted_all (steps ++ one ∷ []) more ∙ append_assoc steps (one ∷ []) more

-- a list of eight, by its items
pub eight : {X : Type 0} (d : X) (xs : List X) → length xs ≡ 8
    → xs ≡ get_or xs 0 d ∷ get_or xs 1 d ∷ get_or xs 2 d ∷ get_or xs 3 d ∷ get_or xs 4 d ∷ get_or xs 5 d ∷ get_or xs 6 d ∷ get_or xs 7 d ∷ []
eight d [] n = absurd (cc)
eight d (x0 ∷ []) n = absurd (omega (arith, n))
eight d (x0 ∷ x1 ∷ []) n = absurd (omega (arith, n))
eight d (x0 ∷ x1 ∷ x2 ∷ []) n = absurd (omega (arith, n))
eight d (x0 ∷ x1 ∷ x2 ∷ x3 ∷ []) n = absurd (omega (arith, n))
eight d (x0 ∷ x1 ∷ x2 ∷ x3 ∷ x4 ∷ []) n = absurd (omega (arith, n))
eight d (x0 ∷ x1 ∷ x2 ∷ x3 ∷ x4 ∷ x5 ∷ []) n = absurd (omega (arith, n))
eight d (x0 ∷ x1 ∷ x2 ∷ x3 ∷ x4 ∷ x5 ∷ x6 ∷ []) n = absurd (omega (arith, n))
eight d (x0 ∷ x1 ∷ x2 ∷ x3 ∷ x4 ∷ x5 ∷ x6 ∷ x7 ∷ []) n = refl
eight d (x0 ∷ x1 ∷ x2 ∷ x3 ∷ x4 ∷ x5 ∷ x6 ∷ x7 ∷ x8 ∷ xs) n = absurd (omega (arith, n))

-- all eight words, each set in its place
abbrev set_each : List (Option ℕ) → List ℕ → List (Option ℕ)
set_each collected words = fold (λ (all : List (Option ℕ)) (k : ℕ). slice_set all k (Some (slice_index words k))) collected (0 ∷ 1 ∷ 2 ∷ 3 ∷ 4 ∷ 5 ∷ 6 ∷ 7 ∷ [])

all_set : (collected : List (Option ℕ)) (words : List ℕ) → length collected ≡ 8 → length words ≡ 8 → set_each collected words ≡ all_known words
all_set collected words n m =
    subst (λ (cs : List (Option ℕ)). set_each cs words ≡ all_known words) (sym (eight None collected n))
    (subst (λ (ws : List ℕ). set_each (get_or collected 0 None ∷ get_or collected 1 None ∷ get_or collected 2 None ∷ get_or collected 3 None ∷ get_or collected 4 None ∷ get_or collected 5 None ∷ get_or collected 6 None ∷ get_or collected 7 None ∷ []) ws ≡ all_known ws)
    (sym (eight 0 words m)) refl)

-- a whole packet was read
pub gathers : (p : ProcessorPart) (words : List ℕ) (collected : List (Option ℕ)) (mades steps : List Made) → length p.collected ≡ 8 → length words ≡ 8 → is_invalid (slice_index words 0) ≡ false
    → collected ≡ all_known words → mades ≡ showing words → steps ≡ p.steps ++ mades
    → Processor (record { retired = p.retired; collected = collected; raising = p.raising; steps = steps }) ≡ fold after_own (Processor p) (showing words)
gathers p words collected mades steps n m valid known are notes =
    let all : set_each p.collected words ≡ all_known words = all_set p.collected words n m in
    let c : collected ≡ set_each p.collected words = known ∙ sym all in
    let s : steps ≡ fold (λ (all : List Made) (one : Made). all ++ one ∷ []) p.steps (showing words) =
    notes ∙ ap (λ (ms : List Made). p.steps ++ ms) are ∙ sym (noted_all p.steps (showing words)) in
    rw valid (λ i. Processor (record { retired = p.retired; collected = c i; raising = p.raising; steps = s i }))

-- a packet was published whole
pub stores : (p : ProducerPart) (id : PacketId) (seen : ℕ) (words : List ℕ) (found : Bool) (tickets : List HeldTicket) (mades steps : List Made) → found ≡ true
    → tickets ≡ (if found then fold after_change p.tickets (publication_changes id seen words) else p.tickets) → mades ≡ publication id.0 seen words → steps ≡ p.steps ++ mades
    → Producer (record { allowance = p.allowance; tickets = tickets; steps = steps }) ≡ fold after_own (Producer p) (publication id.0 seen words)
stores p id seen words found tickets mades steps is changes are notes =
    let t : tickets ≡ fold after_change p.tickets (publication_changes id seen words) =
    changes ∙ ap (λ (b : Bool). if b then fold after_change p.tickets (publication_changes id seen words) else p.tickets) is in
    let s : steps ≡ fold (λ (all : List Made) (one : Made). all ++ one ∷ []) p.steps (publication id.0 seen words) =
    notes ∙ ap (λ (ms : List Made). p.steps ++ ms) are ∙ sym (noted_all p.steps (publication id.0 seen words)) in
    λ i. Producer (record { allowance = p.allowance; tickets = t i; steps = s i })
