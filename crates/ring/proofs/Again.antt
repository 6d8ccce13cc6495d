-- What a second look tells of a packet that was shown and is not retired.
use Rattle.std.proofs.Common.{◌≡◌, ◌≢◌, ℕ, zero, suc, ◌<◌, Bool, true, false, List, [], ◌∷◌, ◌++◌, length, get_or, set, map, refl, ap, ◌∙◌, sym, subst, arith, inl, inr, get_or-set_other}
use Rattle.std.specs.Prelude.{Option, Some, None, is_some, slice_index, if◌then◌else◌}
use Rattle.std.specs.List.{list_all}
use Rattle.std.proofs.lemmas.Bool.Decides.{eqb_tells}
use Rattle.std.proofs.lemmas.List.{get_or-map}
use Rattle.std.proofs.lemmas.Grind.{same_number_lists}
use Rattle.ring_core.specs.declared.access.Access.TheVariants.{LoadHeader, LoadBody}
use Rattle.ring_core.specs.declared.access.Seen.TheVariants.{Read}
use Rattle.ring_core.specs.declared.access.Made.{Made}
use Rattle.ring_core.specs.declared.part.SeatPart.{SeatPart}
use Rattle.ring_core.specs.declared.part.SeatPart.TheVariants.{Processor}
use Rattle.ring_core.specs.declared.part.ProcessorPart.{ProcessorPart}
use Rattle.ring_core.specs.Words.{word, is_invalid, packet_of}
use Rattle.ring_core.specs.Parts.{after_processing, collected_packet}
use Rattle.ring_core.specs.Machine.{read_index, slot_word}
use Rattle.ring_core.specs.Rule.{IsRule, IsTied, ticket_of}
use Rattle.ring.specs.Bytes.{words_of}
use Rattle.ring_core.specs.Runs.{after_own}
use Rattle.ring.specs.Made.{WasMade, WereMade, knowing_all, read, showing}
use Rattle.ring.specs.inner.Halfway.{body_read}
use Rattle.ring.proofs.Facts.{processor_at}
use Rattle.ring.proofs.Loading.{Gathered, gathering, gathered}

-- ---- a packet that is whole

all_known : (collected : List (Option ℕ)) → list_all is_some collected ≡ true → map Some (packet_of collected) ≡ collected
all_known [] h = refl
all_known (None ∷ collected) h = absurd (cc)
all_known (Some w ∷ collected) h = ap (λ ws. Some w ∷ ws) (all_known collected h)

packet_words : (collected : List (Option ℕ)) (packet : List ℕ) (whole : Bool) → list_all is_some collected ≡ whole → ◌≡◌ {A = Option (List ℕ)} (if whole then Some (packet_of collected) else None) (Some packet) → map Some packet ≡ collected
packet_words collected packet true h e =
    let s : packet_of collected ≡ packet = cc in
    ap (map Some) (sym s) ∙ all_known collected h
packet_words collected packet false h e = absurd (cc)

known_word : (q : ProcessorPart) (packet : List ℕ) (k : ℕ) → collected_packet q ≡ Some packet → k < length packet → word q.collected k ≡ Some (get_or packet k 0)
known_word q packet k e lt = ap (λ c. word c k) (sym (packet_words q.collected packet (list_all is_some q.collected) refl e)) ∙ get_or-map Some packet k 0 None lt

-- ---- a word that is collected is read again

module _ (size producers number : ℕ) (q : ProcessorPart) (made : Made) (pos : 0 < size) (h : WasMade size producers number (Processor q) made) where
  tie : IsTied h.machine.size (read_index h.machine) (slot_word h.machine) (ticket_of h.machine.parts) q.retired q.collected q.raising
  tie =
      let rule : IsRule producers h.machine = h.are.rule in
      subst (λ (u : ProcessorPart). IsTied h.machine.size (read_index h.machine) (slot_word h.machine) (ticket_of h.machine.parts) u.retired u.collected u.raising)
      (processor_at producers h.machine.parts number q rule.shared.seats h.had) rule.tied

  pub stands : (k v : ℕ) → (q.raising ≡ true → k ≢ 0) → word q.collected k ≡ Some v → (slot_word h.machine (read_index h.machine) k ≡ v) × (k ≡ 0 → is_invalid v ≡ false)
  stands k v still e =
      let p : word (ticket_of h.machine.parts (read_index h.machine)).words k ≡ Some v = tie.collected k v e in (
        tie.live (read_index h.machine) k v (omega arith) p (λ raising _. still raising),
        λ zeroth. tie.valid (read_index h.machine) v (subst (λ (i : ℕ). word (ticket_of h.machine.parts (read_index h.machine)).words i ≡ Some v) zeroth p),
      )

same_Read : (a b : ℕ) → Read a ≡ Read b → a ≡ b
same_Read a b e = cc

pub header_again : (size producers number v w : ℕ) (q : ProcessorPart) → 0 < size → q.raising ≡ false → word q.collected 0 ≡ Some v → WasMade size producers number (Processor q) (read LoadHeader w) → (w ≡ v) × (is_invalid w ≡ false)
header_again size producers number v w q pos resting e h =
    let s = stands size producers number q (read LoadHeader w) pos h 0 v (λ raising. absurd (cc)) e in
    let is : w ≡ v = same_Read w (slot_word h.machine (read_index h.machine) 0) h.makes.told ∙ s.0 in
    (is, ap is_invalid is ∙ s.1 refl)

body_again : (size producers number k v w : ℕ) (q : ProcessorPart) → 0 < size → k ≢ 0 → word q.collected k ≡ Some v → WasMade size producers number (Processor q) (read (LoadBody k) w) → w ≡ v
body_again size producers number k v w q pos body e h =
    same_Read w (slot_word h.machine (read_index h.machine) k) h.makes.told ∙ (stands size producers number q (read (LoadBody k) w) pos h k v (λ _. body) e).0

-- ---- all words, in turn

were_split : (size producers number : ℕ) (part : SeatPart) (xs ys : List Made) → WereMade size producers number part (xs ++ ys) → WereMade size producers number part xs × WereMade size producers number (knowing_all part xs) ys
were_split size producers number part [] ys h = (tt, h)
were_split size producers number part (x ∷ xs) ys h =
    let r = were_split size producers number (after_own part x) xs ys h.1 in
    ((h.0, r.0), r.1)

body_at : (size producers number : ℕ) (part : SeatPart) (words : List ℕ) (n j : ℕ) → j < n → WereMade size producers number part (body_read words n) → WasMade size producers number (knowing_all part (body_read words j)) (read (LoadBody (suc j)) (slice_index words (suc j)))
body_at size producers number part words zero j lt h = absurd (omega (arith, lt))
body_at size producers number part words (suc n) j lt h =
    let s = were_split size producers number part (body_read words n) (read (LoadBody (suc n)) (slice_index words (suc n)) ∷ []) h in
    elim (eqb_tells j n) [
      | inl g ↦ subst (λ (i : ℕ). WasMade size producers number (knowing_all part (body_read words i)) (read (LoadBody (suc i)) (slice_index words (suc i)))) (sym g.1) s.1.0
      | inr g ↦ body_at size producers number part words n j (omega (arith, lt, g.1)) s.0
    ]

gathered_later : (words : List ℕ) (collected : List (Option ℕ)) (k m : ℕ) → k < m → word (gathered words collected k) m ≡ word collected m
gathered_later words collected zero m lt = refl
gathered_later words collected (suc k) m lt =
    get_or-set_other (gathered words collected k) (suc k) m (Some (slice_index words (suc k))) None (λ e. absurd (omega (arith, e, lt)))
    ∙ gathered_later words collected k m (omega (arith, lt))

module _ (size producers : ℕ) (q : ProcessorPart) (packet words : List ℕ) (pos : 0 < size) (resting : q.raising ≡ false) (whole : collected_packet q ≡ Some packet) (m : length packet ≡ 8)
    (n : length words ≡ 8) (valid : is_invalid (get_or words 0 0) ≡ false) (were : WereMade size producers 0 (Processor q) (showing words)) where
  abbrev part1 : ProcessorPart
  part1 = after_processing q LoadHeader (get_or words 0 0)

  header_in : part1.collected ≡ set q.collected 0 (Some (get_or words 0 0))
  header_in = rw valid refl

  known : (k : ℕ) → k < 8 → word q.collected k ≡ Some (get_or packet k 0)
  known k lt = known_word q packet k whole (omega (arith, lt, m))

  at : (k : ℕ) → k < 8 → get_or words k 0 ≡ get_or packet k 0
  at zero lt = (header_again size producers 0 (get_or packet 0 0) (get_or words 0 0) q pos resting (known 0 lt) were.0).0
  at (suc j) lt =
      let g : Gathered words part1 j = gathering words part1 j in
      let h : WasMade size producers 0 (Processor g.part) (read (LoadBody (suc j)) (slice_index words (suc j))) =
      subst (λ (u : SeatPart). WasMade size producers 0 u (read (LoadBody (suc j)) (slice_index words (suc j)))) g.is (body_at size producers 0 (Processor part1) words 7 j (omega (arith, lt)) were.1) in
      let e : word g.part.collected (suc j) ≡ Some (get_or packet (suc j) 0) =
      ap (λ (c : List (Option ℕ)). word c (suc j)) g.collected
      ∙ gathered_later words part1.collected j (suc j) (omega arith)
      ∙ ap (λ (c : List (Option ℕ)). word c (suc j)) header_in
      ∙ get_or-set_other q.collected 0 (suc j) (Some (get_or words 0 0)) None (λ e. absurd (omega (arith, e)))
      ∙ known (suc j) lt in
      body_again size producers 0 (suc j) (get_or packet (suc j) 0) (slice_index words (suc j)) g.part pos (λ e. absurd (omega (arith, e))) e h

  pub words_again : words ≡ packet
  words_again = same_number_lists words packet (n ∙ sym m) (λ k lt. at k (omega (arith, lt, n)))

-- ---- what a look finds, where the packet was shown

pub not_empty : (size producers header : ℕ) (q : ProcessorPart) (bytes : List ℕ) → 0 < size → q.raising ≡ false → collected_packet q ≡ Some (words_of bytes) → is_invalid header ≡ true → WereMade size producers 0 (Processor q) (read LoadHeader header ∷ []) → ⊥
not_empty size producers header q bytes pos resting whole invalid were =
    let s = header_again size producers 0 (get_or (words_of bytes) 0 0) header q pos resting (known_word q (words_of bytes) 0 whole (omega arith)) were.0 in
    let e : is_invalid header ≡ false = s.1 in absurd (cc)
