-- What is kept of a core in which nothing has happened.
use Rattle.access_core.proofs.Terms.{All-nil, AreBlocksOf, ArgumentBlock, Declared, Entry, Inside, IsCached, IsLegal, IsNew, IsSound, Kernel, MOST_ENTRIES, Queue, Start, block_of, byte_at, byte_at-zeros, cached_opening}
use Rattle.access_core.proofs.Terms.{cached_view, first_missing, has_entry, initial_values, is_given, lies_in_region, lies_in_regions, queue_at, start_of}
use Rattle.access_core.proofs.Terms.{is_capacity}
use Rattle.access_core.proofs.Terms.{lengths_of-zeros, queue_in, cached_openings, AscendFrom, open_fault, program_of, region_lengths, rules_in, rules_of, segments_of, zeros}
use Rattle.std.proofs.Common.{List, Some, ◌∷◌, ap, length, subst, sym}
use Rattle.std.proofs.Common.{All, map, ◌≡◌, ℕ, ◌+◌, ◌<◌, ◌≤◌, [], ◌∙◌, true, None, arith, refl}
use Rattle.core_model.specs.History.{effects_of}
use Rattle.core_model.specs.Grants.{in_force}
use Rattle.core_model.specs.Policies.{policy_at, rows_at}
use Rattle.core_model.specs.Memory.{memory_at, signals}
use Rattle.core_model.specs.Queues.{openings, next_id, errors, is_stopped}
use Rattle.core_model.specs.Flight.{flight}
use Rattle.core_model.specs.Holds.{arguments, held}
use Rattle.core_model.specs.History.{IsOpeningOrigin, opening_state}
use Rattle.core_model.specs.declared.origin.Origin.{Origin}
use Rattle.core_model.specs.Legal.{IsOpening}
use Rattle.core_model.proofs.States.{begin-opening, whole-legal}
use Rattle.grants.specs.Ledger as ledger
use Rattle.access_core.specs.inner.Ready.{AreReady}
use Rattle.access_core.proofs.ReadyLemmas.{ready-opened}
use Rattle.regions.specs.Memory.{lengths_of}
use Rattle.kernel_check.specs.Programs.{Program}

-- an opening history is legal
legal-opened : (policy : Declared) (kernels : List Program) → IsLegal (opening_state policy kernels) []
legal-opened policy kernels = whole-legal (opening_state policy kernels) [] (record { opens = refl; legal = tt })

-- what is kept where nothing has happened is what the empty audit says
pub IsCached-opened : (a : Inside) (policy : Declared) → IsOpeningOrigin policy a.start → IsNew a.grants → rules_in a.grants ≡ rules_of policy → a.memory ≡ zeros (region_lengths policy)
    → a.signals ≡ initial_values policy → a.queues.items ≡ [] → a.opened ≡ 0 → a.told ≡ 0 → a.in_flight_count ≡ 0 → a.audit.items ≡ [] → a.audit.room ≡ a.capacity → a.capacity ≤ MOST_ENTRIES
    → All (λ kernel. has_entry kernel ≡ true) a.kernels.items → a.segments.items ≡ map segments_of (map program_of a.kernels.items) → IsCached a
unfolding rows_at in_force memory_at effects_of signals openings next_id errors is_stopped flight held arguments
IsCached-opened a policy opened fresh ruled memory values queues none_opened untold flying entries places few kernels segments =
    let opens : start_of a ≡ opening_state policy (map program_of a.kernels.items) = begin-opening policy (map program_of a.kernels.items) a.start opened in
    let lengths : region_lengths a.start.policy ≡ region_lengths policy = ap region_lengths opened.policy_is in
    let empty : (x : Start → List Entry → Type 0) → x (opening_state policy (map program_of a.kernels.items)) [] → x (start_of a) a.audit.items =
    λ x has. subst (x (start_of a)) (sym entries) (subst (λ (now : Start). x now []) (sym opens) has) in
    record {
      granted = λ client on right. empty (λ now es. ledger.in_force a.grants client on right ≡ in_force now es client on right) (fresh.none_in_force client on right);
      rules = empty (λ now es. rules_in a.grants ≡ rules_of (policy_at now es)) ruled;
      blocks = [];
      laid = record { in_queues = λ queue. rw queues refl; in_order = tt; before = All-nil (λ (b : ArgumentBlock). b.number < a.start.before + length a.audit.items) };
      held = λ queue id client on right. empty (λ now es. is_given [] queue id client on right ≡ held now es queue id client on right) refl;
      unheld = fresh.none_held;
      blocks_are = empty (λ now es. AreBlocksOf (flight now es) []) refl;
      arguments = λ queue id. empty (λ now es. block_of [] queue id ≡ arguments now es queue id) refl;
      entries = kernels;
      segments = segments;
      lengths = rw (memory, lengths) (lengths_of-zeros (region_lengths policy));
      memory = λ x lies. empty (λ now es. byte_at a.memory x ≡ Some (memory_at now es x)) (rw memory (byte_at-zeros (region_lengths policy) x (ap (λ ls. lies_in_region ls x) (sym lengths) ∙ lies)));
      values = empty (λ now es. a.signals ≡ signals now es) values;
      openings = empty (λ now es. cached_openings a.opened a.queues.items ≡ openings now es) (rw (queues, none_opened) refl);
      queues = λ queue. empty (λ now es. cached_view (queue_in a.queues.items queue) ≡ queue_at now es queue) (rw queues refl);
      ascending = subst (AscendFrom 0) (sym queues) tt;
      up_to = rw queues (All-nil (λ (q : Queue). q.number.0 ≤ a.opened));
      sound = rw queues (All-nil IsSound);
      few_queues = rw queues (omega arith);
      in_flight_count = empty (λ now es. a.in_flight_count ≡ length (flight now es)) flying;
      within = empty (λ now es. All (λ f. lies_in_regions (region_lengths a.start.policy) f.packet ≡ true) (flight now es)) (All-nil _);
      room = rw entries (omega (arith, flying));
      places = let none : length a.audit.items ≡ 0 = ap length entries in omega (arith, none, places);
      few = few;
      start_kept = record {
        unheld = opened.grants.none_held;
        rules = opened.rules ∙ sym (λ i. rules_of (record (opened.policy_is i) { rows = (opened.rules i).rows }));
        lengths = ap lengths_of opened.memory ∙ lengths_of-zeros (region_lengths policy) ∙ sym lengths;
      };
      before = let none = opened.before in omega (arith, none);
      ready = subst (λ n. AreReady a.fresh n a.start []) (sym untold) (ready-opened a.fresh a.start);
      legal = empty IsLegal (legal-opened policy (map program_of a.kernels.items));
    }

-- the history of a core that was just opened
pub IsOpening-empty : (policy : Declared) (origin : Origin) → IsOpeningOrigin policy origin → (kernels : List Program) (capacity : ℕ) (entries : List Entry) → entries ≡ []
    → IsOpening (record { origin = origin; kernels = kernels; capacity = capacity; entries = entries }) policy kernels capacity
IsOpening-empty policy origin opened kernels capacity entries none = record { origin_is = opened; kernels_are = refl; capacity_is = refl; entries_are = none }

-- a capacity is at most 2^20
pub few_places : (capacity : ℕ) → is_capacity capacity ≡ true → capacity ≤ MOST_ENTRIES
few_places capacity is = grind arith

-- where no kernel is missing, each has its checked kernel
none-missing : (kernels : List Kernel) → first_missing kernels ≡ None → All (λ kernel. has_entry kernel ≡ true) kernels
none-missing [] none = All-nil (λ kernel. has_entry kernel ≡ true)
none-missing (kernel ∷ kernels) none = grind (arith, none-missing kernels)

-- so it is where a core can be opened
pub entries-there : (policy : Declared) (kernels : List Kernel) (capacity : ℕ) → open_fault policy kernels capacity ≡ None → All (λ kernel. has_entry kernel ≡ true) kernels
entries-there policy kernels capacity is = grind (arith, none-missing)
