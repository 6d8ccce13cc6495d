-- What steps do to the processor's pass.
use Rattle.std.proofs.Common.{◌≡◌, ℕ, ◌+◌, ◌^◌, ◌<◌, true, false, List, [], ◌∷◌, ◌++◌, length, get_or, set, map, refl, ap, ◌∙◌, sym, subst, arith}
use Rattle.std.specs.Prelude.{Option, Some, None, is_some, ⊤, if◌then◌else◌}
use Rattle.std.specs.List.{list_all}
use Rattle.std.proofs.lemmas.List.{length_push}
use Rattle.ring_core.specs.declared.access.Access.TheVariants.{LoadHeader, ClearHeader, RaiseReadIndex}
use Rattle.ring_core.specs.declared.access.Seen.TheVariants.{Read}
use Rattle.ring_core.specs.declared.access.Made.{Made}
use Rattle.ring_core.specs.declared.part.SeatPart.TheVariants.{Processor}
use Rattle.ring_core.specs.declared.part.ProcessorPart.{ProcessorPart}
use Rattle.ring_core.specs.Words.{is_invalid, packet_of}
use Rattle.ring_core.specs.Parts.{after_processing, collected_packet}
use Rattle.aql_packet.specs.Ring.{is_ring_size}
use Rattle.ring_core.specs.Machine.{made, read_index, producers_of}
use Rattle.ring_core.specs.Rule.{IsRule, IsRing}
use Rattle.ring_core.proofs.States.{raises, fits_by}
use Rattle.ring.specs.declared.share.Numbered.{Numbered}
use Rattle.ring_core.specs.Machine.{is_producer_count}
use Rattle.ring.specs.Shares.{alone}
use Rattle.ring.specs.Passes.{only_part, as_processor, collected_of, IsProcessorPass}
use Rattle.ring.specs.Made.{WasMade, WereMade, Gained, knowing_all, read, stored, showing, retiring}
use Rattle.ring.specs.Steps.{only_number, HasGained}
use Rattle.ring.proofs.Facts.{ring_of, processor_at}
use Rattle.ring.proofs.Gains.{gained_more}
use Rattle.ring.proofs.Loading.{Gathered, gathering, gathered, eight_places, all_gathered}

abbrev pub ME : Type 0
ME = List Numbered × List (ℕ × ⊤)

pub record ProcessorSteps (size producers : ℕ) (q : ProcessorPart) (made : List Made) (r : ProcessorPart) (me' : ME) : Type 0 where
  pub me_is : me' ≡ (alone 0 (Processor r), [])
  pub part : as_processor (only_part me'.0) ≡ r
  pub gained : Gained size producers 0 (Processor q) made (Processor (as_processor (only_part me'.0)))

pub processor_steps : (size producers next : ℕ) (packet : Option (List ℕ)) (me me' : ME) (made : List Made) (r : ProcessorPart) → IsProcessorPass next packet me → HasGained {S = ⊤} size producers me made me' → knowing_all (Processor (as_processor (only_part me.0))) made ≡ Processor r → ProcessorSteps size producers (as_processor (only_part me.0)) made r me'
processor_steps size producers next packet me me' made r h k is =
    let q : ProcessorPart = as_processor (only_part me.0) in
    let share : me ≡ (alone 0 (Processor q), []) = h.share in
    let me_is : me' ≡ (alone 0 (Processor r), []) = k.knows ∙ (λ i. (alone (only_number (share i).0) (knowing_all (only_part (share i).0) made), [])) ∙ (λ i. (alone 0 (is i), [])) in
    let part : as_processor (only_part me'.0) ≡ r = ap (λ (m : ME). as_processor (only_part m.0)) me_is in
    record {
      me_is = me_is;
      part = part;
      gained = (subst (λ (m : ME). WereMade size producers (only_number m.0) (only_part m.0) made) share k.were, ap Processor part ∙ sym is);
    }

-- a pass that knows this part
pass_of : (next : ℕ) (packet : Option (List ℕ)) (me' : ME) (r : ProcessorPart) → me' ≡ (alone 0 (Processor r), []) → next ≡ length r.retired → r.raising ≡ false → r.collected ≡ collected_of packet → IsProcessorPass next packet me'
pass_of next packet me' r me_is index resting shown =
    let part : as_processor (only_part me'.0) ≡ r = ap (λ (m : ME). as_processor (only_part m.0)) me_is in
    record {
      share = me_is ∙ (λ i. (alone 0 (Processor (sym part i)), []));
      index = index ∙ ap (λ u. length u.retired) (sym part);
      resting = ap (λ u. u.raising) part ∙ resting;
      shown = ap (λ u. u.collected) part ∙ shown;
    }

-- ---- a packet that was loaded

packet_in : List (Option ℕ) → Option (List ℕ)
packet_in ws = if list_all is_some ws then Some (packet_of ws) else None

all_known : (ws : List ℕ) → list_all is_some (map Some ws) ≡ true
all_known [] = refl
all_known (w ∷ ws) = all_known ws

all_back : (ws : List ℕ) → packet_of (map Some ws) ≡ ws
all_back [] = refl
all_back (w ∷ ws) = ap (λ xs. w ∷ xs) (all_back ws)

packet_known : (ws : List ℕ) → packet_in (map Some ws) ≡ Some ws
unfolding packet_in
packet_known ws = rw (all_known ws) (ap Some (all_back ws))

packet_is : (r : ProcessorPart) (ws : List ℕ) → r.collected ≡ map Some ws → collected_packet r ≡ Some ws
unfolding packet_in
packet_is r ws e = ap packet_in e ∙ packet_known ws

module _ (size producers next : ℕ) (packet : Option (List ℕ)) (me me' : ME) (words : List ℕ) (pos : 0 < size) (inv : IsProcessorPass next packet me) (n : length words ≡ 8)
    (valid : is_invalid (get_or words 0 0) ≡ false) (h : HasGained {S = ⊤} size producers me (showing words) me') where
  abbrev before : ProcessorPart
  before = as_processor (only_part me.0)

  abbrev part1 : ProcessorPart
  part1 = after_processing before LoadHeader (get_or words 0 0)

  abbrev body : Gathered words part1 7
  body = gathering words part1 7

  pub shown_steps : ProcessorSteps size producers before (showing words) body.part me'
  shown_steps = processor_steps size producers next packet me me' (showing words) body.part inv h body.is

  header_in : part1.collected ≡ set before.collected 0 (Some (get_or words 0 0))
  header_in = rw valid refl

  whole : body.part.collected ≡ map Some words
  whole = body.collected ∙ ap (λ (c : List (Option ℕ)). gathered words c 7) header_in ∙ all_gathered words before.collected n (eight_places size producers 0 before (read LoadHeader (get_or words 0 0)) pos shown_steps.gained.0.0)

  pub shown_index : next ≡ length (as_processor (only_part me'.0)).retired
  shown_index = inv.index ∙ ap length (sym body.retired) ∙ ap (λ u. length u.retired) (sym shown_steps.part)

  pub shown_retired : (as_processor (only_part me'.0)).retired ≡ before.retired
  shown_retired = ap (λ u. u.retired) shown_steps.part ∙ body.retired

  pub shown_packet : collected_packet (as_processor (only_part me'.0)) ≡ Some words
  shown_packet = ap collected_packet shown_steps.part ∙ packet_is body.part words whole

  pub shown_pass : IsProcessorPass next (Some words) me'
  shown_pass = pass_of next (Some words) me' body.part shown_steps.me_is (inv.index ∙ ap length (sym body.retired)) (body.raising ∙ inv.resting) whole

-- ---- a packet that is retired

-- the packet that a pass shows is the one that it then retires
packet_shown : (p : ProcessorPart) (words : List ℕ) → collected_packet p ≡ Some words → packet_of p.collected ≡ words
packet_shown p words h =
    (elim (list_all is_some p.collected) as (λ b. (if b then Some (packet_of p.collected) else None) ≡ Some words → packet_of p.collected ≡ words) [ true ↦ λ e. cc | false ↦ λ e. absurd (cc) ]) h

-- the read index that was found is the number of packets retired, and can be raised
pub raised : (size producers number index : ℕ) (q : ProcessorPart) → is_ring_size size ≡ true → is_producer_count producers ≡ true → WasMade size producers number (Processor q) (read RaiseReadIndex index) → (index ≡ length q.retired) × (index + 1 < 2 ^ 64)
raised size producers number index q fits few h =
    let rule : IsRule producers h.machine = h.are.rule in
    let ring : IsRing h.machine = ring_of producers size h.machine rule h.are.sized fits few in
    let same_Read : (a b : ℕ) → Read a ≡ Read b → a ≡ b = λ a b e. cc in
    let is : index ≡ read_index h.machine = same_Read index (read_index h.machine) h.makes.told in
    let its = processor_at producers h.machine.parts number q rule.shared.seats h.had in
    let room : read_index h.machine + 1 < 2 ^ 64 = fits_by h.machine RaiseReadIndex ring (λ _. raises (producers_of h.machine) h.machine.size h.machine.parts number ring.rule.shared.seats h.makes.allowed) in
    (is ∙ sym rule.tied.count ∙ ap (λ u. length u.retired) its, omega (arith, is, room))

module _ (size producers next index : ℕ) (packet : Option (List ℕ)) (me me1 me2 : ME) (fits : is_ring_size size ≡ true) (few : is_producer_count producers ≡ true) (inv : IsProcessorPass next packet me)
    (clear : HasGained {S = ⊤} size producers me (stored ClearHeader ∷ []) me1) (raise : HasGained {S = ⊤} size producers me1 (read RaiseReadIndex index ∷ []) me2) where
  abbrev held : ProcessorPart
  held = as_processor (only_part me.0)

  abbrev cleared : ProcessorPart
  cleared = after_processing held ClearHeader 0

  abbrev retired : ProcessorPart
  retired = after_processing cleared RaiseReadIndex index

  pub retired_steps : ProcessorSteps size producers held (retiring index) retired me2
  retired_steps = processor_steps size producers next packet me me2 (retiring index) retired inv (gained_more size producers me me1 me2 (stored ClearHeader ∷ []) (read RaiseReadIndex index ∷ []) clear raise) refl

  pub found_index : (index ≡ length held.retired) × (index + 1 < 2 ^ 64)
  found_index = raised size producers 0 index cleared fits few retired_steps.gained.0.1.0

  pub retired_adds : (words : List ℕ) → collected_packet held ≡ Some words → (as_processor (only_part me2.0)).retired ≡ held.retired ++ words ∷ []
  retired_adds words h = ap (λ u. u.retired) retired_steps.part ∙ ap (λ ws. held.retired ++ ws ∷ []) (packet_shown held words h)

  pub retired_pass : IsProcessorPass (index + 1) None me2
  retired_pass = pass_of (index + 1) None me2 retired retired_steps.me_is (ap (λ n. n + 1) found_index.0 ∙ sym (length_push held.retired (packet_of cleared.collected))) refl refl
