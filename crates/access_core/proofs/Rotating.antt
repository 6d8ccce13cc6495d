-- What is kept beside an audit that is rotated: the fields stay, and tell the same of the state behind it.
use Rattle.std.proofs.Common.{◌≡◌, ◌+◌, ◌≤◌, List, [], length, map, refl, sym, ◌∙◌, ap, subst, true, false, Some, arith, ℕ}
use Rattle.std.specs.Prelude.{All}
use Rattle.std.specs.List.{filter_map}
use Rattle.sequences.specs.Room.{Roomy}
use Rattle.core_model.specs.declared.entry.Entry.{Entry}
use Rattle.core_model.specs.declared.flight.InFlight.{InFlight}
use Rattle.core_model.specs.declared.limits.TheConstants.{MOST_BEFORE}
use Rattle.core_model.specs.History.{begin, effects_of}
use Rattle.core_model.specs.declared.origin.Origin.{Origin}
use Rattle.core_model.specs.Grants.{in_force}
use Rattle.core_model.specs.Policies.{policy_at, rows_at}
use Rattle.core_model.specs.Memory.{memory_at, signals}
use Rattle.core_model.specs.Queues.{openings, next_id, errors, is_stopped}
use Rattle.core_model.specs.Flight.{flight, progress}
use Rattle.core_model.specs.Holds.{arguments, held}
use Rattle.core_model.specs.Legal.{IsLegal}
use Rattle.core_model.specs.Rotation.{lies_too_far}
use Rattle.core_model.specs.States.{state_after}
use Rattle.core_model.proofs.States.{rotate-legal, same-begin}
use Rattle.grants.specs.Ledger as ledger
use Rattle.access_core.specs.declared.fresh.Fresh.{Fresh}
use Rattle.access_core.specs.inner.Ready.{AreReady}
use Rattle.access_core.proofs.ReadyLemmas.{ready-more}
use Rattle.grants.specs.Ledger.{IsCopy, Ledger}
use Rattle.access_core.specs.inner.Origins.{SameInForce, origin_behind, packet_origin, queue_origin}
use Rattle.access_core.proofs.Rotated.{rotated}
use Rattle.access_core.specs.inner.Cached.{IsKeptStart}
use Rattle.core_model.specs.History.{policy_in}
use Rattle.core_model.specs.Legal.{SameOrigin}
use Rattle.policy.specs.Policy.{Declared}
use Rattle.policy.specs.Rules.{Rules}
use Rattle.regions.specs.Memory.{lengths_of}
use Rattle.access_core.proofs.Terms.{AreBlocksOf, AreLaid, IsCached, Inside, Start, are_region_lengths, block_of, byte_at, cached_openings, cached_view, history_of, lies_in_region, lies_in_regions, ltb-false, is_given, queue_in, program_of, queue_at}
use Rattle.access_core.proofs.Terms.{region_lengths, rules_in, rules_of, start_of}

-- a copy has the same in force, by the same rules
pub copy-same : (grants copy : Ledger) → IsCopy grants copy → SameInForce grants copy
copy-same grants copy is = record {
  same_rights = λ client on right. ap (λ (l : Ledger). ledger.in_force l client on right) is;
  same_rules = ap (λ (l : Ledger). ledger.rules_in l) is;
}

-- the same to begin from, with a copy of the grants, is kept as well
pub same-kept : (one other : Origin) → SameOrigin one other → one.policy ≡ other.policy → IsCopy other.grants one.grants → IsKeptStart other → IsKeptStart one
same-kept one other same policy copy kept =
    let ruled : rules_in one.grants ≡ rules_in other.grants = ap (λ (l : Ledger). ledger.rules_in l) copy in
    record {
      unheld = λ queue id client on right. same.held queue id client on right ∙ kept.unheld queue id client on right;
      rules = ruled ∙ kept.rules ∙ sym (ap rules_of same.policy);
      lengths = ap lengths_of same.memory ∙ kept.lengths ∙ sym (ap region_lengths policy);
    }

module _ (a : Inside) (kept : IsCached a) where
  -- copies of the fields give the answers of the state behind the audit
  pub copied-behind : (o : Origin) → o.policy ≡ a.start.policy → SameInForce a.grants o.grants → o.memory ≡ a.memory → o.signals ≡ a.signals → o.opened ≡ a.opened → o.queues ≡ map queue_origin a.queues.items
      → o.packets ≡ filter_map (packet_origin a.queues.items) kept.blocks → o.before ≡ a.start.before + length a.audit.items
      → are_region_lengths (region_lengths a.start.policy) ≡ true → begin (map program_of a.kernels.items) o ≡ state_after (start_of a) a.audit.items
  copied-behind o policy grants memory signals opened queues packets before fit =
      same-begin (map program_of a.kernels.items) o (origin_behind a o.grants kept.blocks) (record {
        policy = λ i. record (policy i) { rows = (rules_in o.grants).rows };
        granted = λ client on right. refl;
        held = λ queue id client on right. refl;
        memory = memory;
        signals = signals;
        opened = opened;
        queues = queues;
        packets = packets;
        before = before;
      })
      ∙ rotated a kept o.grants grants fit

  -- no packet holds anything by its grants either, and its rules are its policy's
  pub copied-kept : (o : Origin) → o.policy ≡ a.start.policy → IsCopy a.grants o.grants → o.memory ≡ a.memory → IsKeptStart o
  copied-kept o policy copy memory =
      let ruled : rules_in o.grants ≡ rules_of (policy_at (start_of a) a.audit.items) = ap (λ (l : Ledger). ledger.rules_in l) copy ∙ kept.rules in
      record {
        unheld = λ queue id client on right. ap (λ (l : Ledger). ledger.holds l queue id client on right) copy ∙ kept.unheld queue id client on right;
        rules = ruled ∙ sym (λ i. rules_of (record (policy i) { rows = (ruled i).rows }));
        lengths = ap lengths_of memory ∙ kept.lengths ∙ sym (ap region_lengths policy);
      }

  -- and it has no more entries before it than may be
  pub few-behind : (o : Origin) → lies_too_far (history_of a) ≡ false → begin (map program_of a.kernels.items) o ≡ state_after (start_of a) a.audit.items → o.before ≤ MOST_BEFORE
  few-behind o near is =
      let count : o.before ≡ a.start.before + length a.audit.items = ap (λ (now : Start). now.before) is in
      omega (arith, count, ltb-false MOST_BEFORE (a.start.before + length a.audit.items) near)

  -- with an origin that gives those answers, and an empty audit, the fields are again what the history says
  pub IsCached-rotated : (next : Origin) (audit : Roomy Entry) (new : Fresh) (told : ℕ) → AreReady new told next kept.blocks → begin (map program_of a.kernels.items) next ≡ state_after (start_of a) a.audit.items → audit.items ≡ []
      → audit.room ≡ a.capacity → next.before ≤ MOST_BEFORE → IsKeptStart next → IsCached (record a { start = next; audit = audit; fresh = new; told = told })
  unfolding rows_at in_force memory_at effects_of signals openings next_id errors is_stopped flight progress held arguments
  IsCached-rotated next audit new told ready is empty room few kept_so =
      let begun : Start = begin (map program_of a.kernels.items) next in
      let here : (x : Start → List Entry → Type 0) → x (state_after (start_of a) a.audit.items) [] → x begun audit.items =
      λ x has. subst (x begun) (sym empty) (subst (λ (now : Start). x now []) (sym is) has) in
      let lengths : region_lengths next.policy ≡ region_lengths a.start.policy = ap (λ (now : Start). region_lengths now.policy) is in
      let none : length audit.items ≡ 0 = ap length empty in
      let begins : next.before ≡ a.start.before + length a.audit.items = ap (λ (now : Start). now.before) is in
      let count : next.before + length audit.items ≡ a.start.before + length a.audit.items = omega (arith, none, begins) in
      record {
        granted = λ client on right. here (λ now es. ledger.in_force a.grants client on right ≡ in_force now es client on right) (kept.granted client on right);
        rules = here (λ now es. rules_in a.grants ≡ rules_of (policy_at now es)) kept.rules;
        blocks = kept.blocks;
        laid = subst (λ n. AreLaid a.queues.items n kept.blocks) (sym count) kept.laid;
        held = λ queue id client on right. here (λ now es. is_given kept.blocks queue id client on right ≡ held now es queue id client on right) (kept.held queue id client on right);
        unheld = kept.unheld;
        blocks_are = here (λ now es. AreBlocksOf (flight now es) kept.blocks) kept.blocks_are;
        arguments = λ queue id. here (λ now es. block_of kept.blocks queue id ≡ arguments now es queue id) (kept.arguments queue id);
        entries = kept.entries;
        segments = kept.segments;
        lengths = kept.lengths ∙ sym lengths;
        memory = λ x lies. here (λ now es. byte_at a.memory x ≡ Some (memory_at now es x)) (kept.memory x (ap (λ ls. lies_in_region ls x) (sym lengths) ∙ lies));
        values = here (λ now es. a.signals ≡ signals now es) kept.values;
        openings = here (λ now es. cached_openings a.opened a.queues.items ≡ openings now es) kept.openings;
        queues = λ queue. here (λ now es. cached_view (queue_in a.queues.items queue) ≡ queue_at now es queue) (kept.queues queue);
        ascending = kept.ascending;
        up_to = kept.up_to;
        sound = kept.sound;
        few_queues = kept.few_queues;
        in_flight_count = here (λ now es. a.in_flight_count ≡ length (flight now es)) kept.in_flight_count;
        within = here (λ now es. All (λ (f : InFlight). lies_in_regions (region_lengths next.policy) f.packet ≡ true) (flight now es))
            (subst (λ ls. All (λ (f : InFlight). lies_in_regions ls f.packet ≡ true) (flight (start_of a) a.audit.items)) (sym lengths) kept.within);
        room = let before = kept.room in omega (arith, none, before);
        places = omega (arith, none, room);
        few = kept.few;
        start_kept = kept_so;
        before = few;
        ready = ready;
        legal = here IsLegal (rotate-legal (start_of a) a.audit.items kept.legal);
      }

  -- where more memory is there for what will be told, the fields are what the history says as before
  pub IsCached-provided : (new : Fresh) → (a.fresh.rights.lists ≤ new.rights.lists) × (a.fresh.rights.each ≤ new.rights.each) → (a.fresh.bytes.lists ≤ new.bytes.lists) × (a.fresh.bytes.each ≤ new.bytes.each)
      → IsCached (record a { fresh = new })
  IsCached-provided new rights bytes = record {
    granted = kept.granted;
    rules = kept.rules;
    blocks = kept.blocks;
    laid = kept.laid;
    held = kept.held;
    unheld = kept.unheld;
    blocks_are = kept.blocks_are;
    arguments = kept.arguments;
    entries = kept.entries;
    segments = kept.segments;
    lengths = kept.lengths;
    memory = kept.memory;
    values = kept.values;
    openings = kept.openings;
    queues = kept.queues;
    ascending = kept.ascending;
    up_to = kept.up_to;
    sound = kept.sound;
    few_queues = kept.few_queues;
    in_flight_count = kept.in_flight_count;
    within = kept.within;
    room = kept.room;
    places = kept.places;
    few = kept.few;
    start_kept = kept.start_kept;
    before = kept.before;
    ready = ready-more a.fresh a.told a.start kept.blocks kept.ready new rights bytes;
    legal = kept.legal;
  }
