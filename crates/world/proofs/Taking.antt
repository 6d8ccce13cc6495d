-- A packet that is handed over is the next that is published.
use Rattle.std.proofs.Common.{◌≡◌, ◌≢◌, ℕ, ◌+◌, ◌<◌, List, [], ◌∷◌, ◌++◌, length, refl, sym, ap, ◌∙◌, subst, Bool, true, false, Option, Some, None, inl, inr, arith, length-append}
use Rattle.std.specs.Prelude.{◌==◌, is_some, slice_get, if◌then◌else◌}
use Rattle.std.specs.List.{list_all}
use Rattle.std.proofs.lemmas.Bool.{eq-eqb}
use Rattle.std.proofs.lemmas.Bool.Decides.{eqb_tells, leb_tells}
use Rattle.aql_packet.specs.declared.ids.QueueId.{QueueId}
use Rattle.policy.specs.Policy.{Declared, numbered}
use Rattle.core_model.specs.declared.event.Event.{Event}
use Rattle.core_model.specs.declared.entry.Entry.{Entry}
use Rattle.core_model.specs.declared.entry.Effect.{Effect}
use Rattle.core_model.specs.declared.outcome.Outcome.{Outcome}
use Rattle.core_model.specs.History.{beginning, History}
use Rattle.core_model.specs.Queues.{Openings, next_id, openings}
use Rattle.core_model.specs.Owed.{Owed, refuses, answers, enters}
use Rattle.core_model.specs.Legal.{due, entry_of, history_after}
use Rattle.core_model.proofs.More.{next_id-more, openings-more}
use Rattle.core_model.proofs.Entered.{take-decided}
use Rattle.ring_core.specs.declared.part.ProcessorPart.{ProcessorPart}
use Rattle.ring_core.specs.Words.{packet_of}
use Rattle.ring_core.specs.Parts.{collected_packet}
use Rattle.ring_core.specs.Machine.{Machine, producers_of, read_index}
use Rattle.ring_core.specs.Rule.{IsRing, processor_of}
use Rattle.ring_core.proofs.Publication.{collected_is}
use Rattle.aql_packet.specs.Words.{bytes_of}
use Rattle.world.specs.States.{Joined, closed_ring_of, ring_of, with_core}
use Rattle.world.specs.Dues.{taking}
use Rattle.world.specs.InStep.{IsInStep, IsJoinedBehind, IsPublished, Stands, StandsOpen, published, sizes, takes}
use Rattle.executor.proofs.Maps.{get_append_left}
use Rattle.core_model.proofs.Turns.{slice_get-last}
use Rattle.world.proofs.Entering.{due_enters, sizes_behind, takes_behind, whole_entered}
use Rattle.world.proofs.Joining.{open_as, opened_as, stands_along, stands_so}
use Rattle.world.proofs.Among.{differs, same_queue}

-- the words of a packet that is collected
collected_whole : (q : ProcessorPart) (words : List ℕ) → collected_packet q ≡ Some words → (list_all is_some q.collected ≡ true) × (words ≡ packet_of q.collected)
collected_whole q words = by_test (list_all is_some q.collected) refl
  where
    by_test : (b : Bool) → list_all is_some q.collected ≡ b → (if b then Some (packet_of q.collected) else None) ≡ Some words → (list_all is_some q.collected ≡ true) × (words ≡ packet_of q.collected)
    by_test true is e = (is, cc)
    by_test false is e = absurd (cc)

module _ (first : Declared) (prior : List Entry) (world : Joined) (h : IsJoinedBehind first prior world) (queue : QueueId) (ring : Machine) (found : ring_of world queue ≡ Some ring) (words : List ℕ) (whole : collected_packet (processor_of ring.parts) ≡ Some words) where
  abbrev Taking : Event
  Taking = taking queue (read_index ring) words

  abbrev After : Owed → Joined
  After owing = with_core world (history_after world.core Taking owing)

  abbrev All : List Entry
  All = prior ++ world.core.entries

  stands : StandsOpen world.core All queue ring × (closed_ring_of world queue ≡ None)
  stands = stands_so first prior world h queue ring found

  here : IsRing ring × IsInStep world.core All queue ring
  here = (stands.0.rule, stands.0.in_step)

  -- what is handed over is what is published under the read index
  is_published : IsPublished ring (read_index ring) × (bytes_of words ≡ published ring (read_index ring))
  is_published =
      let all = collected_whole (processor_of ring.parts) words whole in
      let c = collected_is (producers_of ring) ring here.0.rule all.0 in
      (c.0, ap bytes_of (all.1 ∙ c.1))

  module _ (outcome : Outcome) (effects : List Effect) (owing : due world.core Taking ≡ enters outcome effects) where
    abbrev New : History
    New = history_after world.core Taking (enters outcome effects)

    abbrev TheEntry : Entry
    TheEntry = entry_of Taking outcome effects

    abbrev NewAll : List Entry
    NewAll = prior ++ (world.core.entries ++ TheEntry ∷ [])

    is_next : read_index ring ≡ next_id (beginning world.core) world.core.entries queue
    is_next = (take-decided (beginning world.core) world.core.entries outcome effects queue (record { 0 = read_index ring }) (bytes_of words) (due_enters world.core Taking outcome effects owing)).id_is_next

    -- its own queue has one more
    next_more : next_id (beginning New) New.entries queue ≡ next_id (beginning world.core) world.core.entries queue + 1
    next_more =
        next_id-more (beginning world.core) world.core.entries TheEntry queue
        ∙ ap (λ (b : Bool). if b then next_id (beginning world.core) world.core.entries queue + 1 else next_id (beginning world.core) world.core.entries queue) (eq-eqb queue.0 queue.0 refl)

    takes_longer : takes NewAll queue ≡ takes All queue ++ bytes_of words ∷ []
    takes_longer =
        takes_behind prior world.core.entries TheEntry queue
        ∙ ap (λ b. elim (if b then Some (bytes_of words) else None) [ None ↦ takes All queue | Some x ↦ takes All queue ++ x ∷ [] ]) (eq-eqb queue.0 queue.0 refl)

    whole_more : (id : ℕ) → id < next_id (beginning New) New.entries queue → IsPublished ring id × (slice_get (takes NewAll queue) id ≡ Some (published ring id))
    whole_more id lt =
        elim (leb_tells (next_id (beginning world.core) world.core.entries queue) id) [
          | inr below ↦
              let was = here.1.whole id below.1 in
              let inside : id < length (takes All queue) = omega (arith, here.1.count, below.1) in
              (was.0, ap (λ xs. slice_get xs id) takes_longer ∙ get_append_left (takes All queue) (bytes_of words ∷ []) id inside ∙ was.1)
          | inl last ↦
              let at : id ≡ read_index ring = omega (arith, last.1, lt, next_more, is_next) in
              let end : id ≡ length (takes All queue) = omega (arith, at, is_next, here.1.count) in (
                subst (IsPublished ring) (sym at) is_published.0,
                ap (λ xs. slice_get xs id) takes_longer
                    ∙ ap (slice_get (takes All queue ++ bytes_of words ∷ [])) end
                    ∙ slice_get-last (takes All queue) (bytes_of words)
                    ∙ ap Some is_published.1
                    ∙ ap (λ i. Some (published ring i)) (sym at),
              )
        ]

    -- of all queues the openings and the sizes stay
    same_openings : openings (beginning New) New.entries ≡ openings (beginning world.core) world.core.entries
    same_openings = openings-more (beginning world.core) world.core.entries TheEntry

    same_sizes : sizes NewAll ≡ sizes All
    same_sizes = sizes_behind prior world.core.entries TheEntry

    stands_here : StandsOpen New NewAll queue ring
    stands_here = record {
      rule = here.0;
      in_step = record {
        floor = omega (arith, here.1.floor, next_more);
        ceiling = omega (arith, is_next, next_more);
        cleared = λ raising. omega (arith, is_next, next_more);
        count = let longer = length-append (takes All queue) (bytes_of words ∷ []) in let is = ap length takes_longer in omega (arith, longer, is, here.1.count, next_more);
        whole = whole_more;
      };
      size = ap (λ (ns : List ℕ). numbered ns queue.0) same_sizes ∙ stands.0.size;
      opened = opened_as New queue (openings (beginning world.core) world.core.entries) same_openings ∙ stands.0.opened;
      owned = open_as New queue (openings (beginning world.core) world.core.entries) same_openings ∙ stands.0.owned;
    }

    -- other queues have what they had
    stands_there : (other : QueueId) → other.0 ≢ queue.0 → Stands New NewAll other (ring_of world other) (closed_ring_of world other)
    stands_there other apart =
        let away : (queue.0 == other.0) ≡ false = differs queue.0 other.0 (λ e. apart (sym e)) in
        stands_along world.core New All NewAll other (ring_of world other) (closed_ring_of world other) (record {
          next = next_id-more (beginning world.core) world.core.entries TheEntry other
              ∙ ap (λ (b : Bool). if b then next_id (beginning world.core) world.core.entries other + 1 else next_id (beginning world.core) world.core.entries other) away;
          takes = takes_behind prior world.core.entries TheEntry other ∙ ap (λ (b : Bool). elim (if b then Some (bytes_of words) else None) [ None ↦ takes All other | Some x ↦ takes All other ++ x ∷ [] ]) away;
          size = ap (λ (ns : List ℕ). numbered ns other.0) same_sizes;
          opened = opened_as New other (openings (beginning world.core) world.core.entries) same_openings;
          owned = open_as New other (openings (beginning world.core) world.core.entries) same_openings;
        }) (h.each other)

    taken : IsJoinedBehind first prior (After (enters outcome effects))
    taken = record {
      start_is = h.start_is;
      whole = whole_entered world.core Taking outcome effects first prior h.start_is h.whole owing;
      apart = h.apart;
      count = ap length same_sizes ∙ h.count ∙ ap (λ (o : Openings). o.opened) (sym same_openings);
      each = at;
    }
      where
        ours : Stands New NewAll queue (ring_of world queue) (closed_ring_of world queue)
        ours =
            subst (λ (o : Option Machine). Stands New NewAll queue o (closed_ring_of world queue)) (sym found)
            (subst (Stands New NewAll queue (Some ring)) (sym stands.1) stands_here)

        at : (other : QueueId) → Stands New NewAll other (ring_of world other) (closed_ring_of world other)
        at other =
            elim (eqb_tells other.0 queue.0) [
              | inl e ↦ subst (λ (q : QueueId). Stands New NewAll q (ring_of world q) (closed_ring_of world q)) (sym (same_queue other queue e.1)) ours
              | inr e ↦ stands_there other e.1
            ]

  taken_by : (owing : Owed) → due world.core Taking ≡ owing → IsJoinedBehind first prior (After owing)
  taken_by (refuses why) is = h
  taken_by (answers outcome) is = h
  taken_by (enters outcome effects) is = taken outcome effects is

  pub take_kept : IsJoinedBehind first prior (After (due world.core Taking))
  take_kept = taken_by (due world.core Taking) refl
