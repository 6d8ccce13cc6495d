-- A start that moved on by the audit's entries, with what is kept of queues and packets, tells of the state behind them.
use Rattle.std.proofs.Common.{◌≡◌, ℕ, ◌+◌, ◌<◌, ◌≤◌, All, List, [], Ok, length, map, refl, sym, ◌∙◌, ap, subst, arith, true, false, Option, Some, fold}
use Rattle.std.specs.List.{filter_map}
use Rattle.std.specs.Option.{unwrap_or}
use Rattle.policy.specs.declared.rows.PolicyRows.{PolicyRows}
use Rattle.core_model.specs.declared.entry.Entry.{Entry}
use Rattle.core_model.specs.declared.origin.Origin.{Origin}
use Rattle.core_model.specs.History.{begin, effects_of}
use Rattle.core_model.specs.Grants.{in_force}
use Rattle.core_model.specs.Policies.{policy_at, rows_after, rows_at}
use Rattle.core_model.specs.Memory.{memory_at, signals}
use Rattle.core_model.specs.Rotation.{Truncates, lies_too_far}
use Rattle.core_model.specs.States.{state_after}
use Rattle.sequences.specs.Room.{Roomy}
use Rattle.regions.proofs.Laws.{byte_at-inside}
use Rattle.regions.specs.Memory.{lengths_of}
use Rattle.grants.specs.Ledger as ledger
use Rattle.access_core.specs.inner.Cached.{IsKeptStart}
use Rattle.access_core.specs.declared.fresh.Fresh.{Fresh}
use Rattle.access_core.specs.inner.MovingOn.{MayMove, MayTell, MovesOn}
use Rattle.access_core.specs.inner.Ready.{AreReady, Fits, IsTold, Spends, WasTold, later}
use Rattle.access_core.proofs.InOrder.{later-none}
use Rattle.access_core.proofs.Rotated.{all-told}
use Rattle.core_model.specs.declared.origin.PacketOrigin.{PacketOrigin}
use Rattle.core_model.specs.declared.origin.QueueOrigin.{QueueOrigin}
use Rattle.access_core.specs.inner.Origins.{SameInForce, packet_origin, queue_origin}
use Rattle.access_core.proofs.Rotating.{IsCached-rotated, copied-behind, few-behind}
use Rattle.access_core.proofs.TellingAgain.{may-tell}
use Rattle.access_core.proofs.Terms.{history_of, All-weaker, ArgumentBlock, IsCached, Inside, Ledger, Queue, Rules, are_region_lengths, byte_at, lies_in_region, program_of, region_lengths, rules_in, rules_of, start_of}

module _ (a : Inside) (kept : IsCached a) (fit : are_region_lengths (region_lengths a.start.policy) ≡ true) where
  -- the audit's entries follow lawfully from the start
  pub may-move : MayMove a.start a.audit.items
  may-move = record { kernels = map program_of a.kernels.items; legal = kept.legal; kept = kept.start_kept; fit = fit }

  -- an empty audit in the memory of the one before has room for as many entries
  audit-room : (audit : Roomy Entry) → audit.room ≡ length a.audit.items + a.audit.room → audit.room ≡ a.capacity
  audit-room audit room = room ∙ sym kept.places

  module _ (moved : Origin) (is : MovesOn a.start a.audit.items moved) where
    -- it has what was told of packets before, which is told anew
    module _ (queues : List Queue) (same : queues ≡ a.queues.items) where
      pub tells-anew : MayTell queues a.in_flight_count a.told moved.packets a.fresh kept.blocks
      tells-anew =
          subst (λ (qs : List Queue). MayTell qs a.in_flight_count a.told moved.packets a.fresh kept.blocks) (sym same)
          (subst (λ (ps : List PacketOrigin). MayTell a.queues.items a.in_flight_count a.told ps a.fresh kept.blocks) (sym (ap (λ (o : Origin). o.packets) is.others)) (may-tell a kept))

      pub told-anew : (packets : List PacketOrigin)
          → ((blocks : List ArgumentBlock) → MayTell queues a.in_flight_count a.told moved.packets a.fresh blocks → packets ≡ filter_map (packet_origin queues) blocks)
          → packets ≡ filter_map (packet_origin a.queues.items) kept.blocks
      told-anew packets told = told kept.blocks tells-anew ∙ ap (λ (qs : List Queue). filter_map (packet_origin qs) kept.blocks) same

    abbrev b : Inside
    b = record a { grants = moved.grants; memory = moved.memory; signals = moved.signals }

    ruled : rules_in moved.grants ≡ rules_of (policy_at (start_of a) a.audit.items)
    unfolding rows_at
    ruled =
        is.rules
        ∙ ap (λ (r : Rules). record r { rows = fold (λ (before : PolicyRows) (entry : Entry). rows_after before entry.event) (rules_in a.start.grants).rows a.audit.items }) kept.start_kept.rules

    byte-there : (x : ℕ) → lies_in_region (region_lengths a.start.policy) x ≡ true → byte_at a.start.memory x ≡ Some (unwrap_or (byte_at a.start.memory x) 0)
    byte-there x lies =
        let at = byte_at-inside a.start.memory x (ap (λ ls. lies_in_region ls x) kept.start_kept.lengths ∙ lies) in
        at ∙ ap Some (sym (ap (λ (o : Option ℕ). unwrap_or o 0) at))

    -- what is kept of it is what the history says of rights, memory and signals
    moved-cached : (now : IsCached b) × (now.blocks ≡ kept.blocks)
    unfolding in_force memory_at signals
    moved-cached = (
      record {
        granted = is.granted;
        rules = ruled;
        blocks = kept.blocks;
        laid = kept.laid;
        held = kept.held;
        unheld = λ queue id client on right. is.same_holds queue id client on right ∙ kept.start_kept.unheld queue id client on right;
        blocks_are = kept.blocks_are;
        arguments = kept.arguments;
        entries = kept.entries;
        segments = kept.segments;
        lengths = is.lengths ∙ kept.start_kept.lengths;
        memory = λ x lies. is.memory x (unwrap_or (byte_at a.start.memory x) 0) (byte-there x lies);
        values = is.signals;
        openings = kept.openings;
        queues = kept.queues;
        ascending = kept.ascending;
        up_to = kept.up_to;
        sound = kept.sound;
        few_queues = kept.few_queues;
        in_flight_count = kept.in_flight_count;
        within = kept.within;
        room = kept.room;
        places = kept.places;
        few = kept.few;
        start_kept = kept.start_kept;
        before = kept.before;
        ready = kept.ready;
        legal = kept.legal;
      },
      refl,
    )

    -- so with the queues and packets that are kept, it begins in the state behind the audit
    pub moved-behind : (o : Origin) → o.policy ≡ a.start.policy → o.grants ≡ moved.grants → o.memory ≡ moved.memory → o.signals ≡ moved.signals → o.opened ≡ a.opened
        → o.queues ≡ map queue_origin a.queues.items → o.packets ≡ filter_map (packet_origin a.queues.items) kept.blocks → o.before ≡ a.start.before + length a.audit.items
        → begin (map program_of a.kernels.items) o ≡ state_after (start_of a) a.audit.items
    moved-behind o policy grants memory values opened queues packets before =
        let now = moved-cached in
        copied-behind b now.0 o policy
        (record { same_rights = λ client on right. ap (λ (l : Ledger). ledger.in_force l client on right) grants; same_rules = ap (λ (l : Ledger). rules_in l) grants })
        memory values opened queues (packets ∙ ap (filter_map (packet_origin a.queues.items)) (sym now.1)) before fit

    -- and it is kept as well
    pub moved-kept : (o : Origin) → o.policy ≡ a.start.policy → o.grants ≡ moved.grants → o.memory ≡ moved.memory → IsKeptStart o
    moved-kept o policy grants memory = record {
      unheld = λ queue id client on right.
          ap (λ (l : Ledger). ledger.holds l queue id client on right) grants
          ∙ is.same_holds queue id client on right ∙ kept.start_kept.unheld queue id client on right;
      rules =
          let now : rules_in o.grants ≡ rules_of (policy_at (start_of a) a.audit.items) = ap (λ (l : Ledger). rules_in l) grants ∙ ruled in
          now ∙ sym (λ i. rules_of (record (policy i) { rows = (now i).rows }));
      lengths = ap lengths_of memory ∙ is.lengths ∙ kept.start_kept.lengths ∙ sym (ap region_lengths policy);
    }

    -- ---- all of it, where the start that moved on has what is told of queues and packets

    module _ (new : Origin) (others : new ≡ record moved { opened = a.opened; queues = map queue_origin a.queues.items; packets = filter_map (packet_origin a.queues.items) kept.blocks; before = a.start.before + length a.audit.items }) where
      pub policy-stays : new.policy ≡ a.start.policy
      policy-stays = ap (λ (o : Origin). o.policy) others ∙ ap (λ (o : Origin). o.policy) is.others

      pub begins-behind : begin (map program_of a.kernels.items) new ≡ state_after (start_of a) a.audit.items
      begins-behind =
          moved-behind new policy-stays
          (ap (λ (o : Origin). o.grants) others) (ap (λ (o : Origin). o.memory) others) (ap (λ (o : Origin). o.signals) others)
          (ap (λ (o : Origin). o.opened) others) (ap (λ (o : Origin). o.queues) others)
          (ap (λ (o : Origin). o.packets) others) (ap (λ (o : Origin). o.before) others)

      pub stays-kept : IsKeptStart new
      stays-kept = moved-kept new policy-stays (ap (λ (o : Origin). o.grants) others) (ap (λ (o : Origin). o.memory) others)

      lengths-stay : lengths_of new.memory ≡ region_lengths a.start.policy
      lengths-stay = ap (λ (o : Origin). lengths_of o.memory) others ∙ is.lengths ∙ kept.start_kept.lengths

      -- each packet in flight is told of from now on
      told-now : (fresh : Fresh) → Spends a.in_flight_count a.fresh fresh → AreReady fresh new.before new kept.blocks
      told-now fresh spent =
          let before_is : new.before ≡ a.start.before + length a.audit.items = ap (λ (o : Origin). o.before) others in
          let none : length (later new.before kept.blocks) ≡ 0 =
          ap length (later-none new.before kept.blocks
          (All-weaker (λ (b : ArgumentBlock). b.number < a.start.before + length a.audit.items) (λ (b : ArgumentBlock). b.number < new.before) (λ b less. omega (arith, less, before_is)) kept.blocks kept.laid.before)) in
          record {
            before = omega arith;
            were_told = All-weaker (IsTold new.packets) (WasTold new.before new.packets) (λ b told less. told) kept.blocks
                (subst (λ (ps : List PacketOrigin). All (IsTold ps) kept.blocks) (sym (ap (λ (o : Origin). o.packets) others)) (all-told a kept));
            fit = All-weaker (Fits a.fresh) (Fits fresh) (λ b fit. (subst (λ n. length b.rights ≤ n) (sym spent.rights_each) fit.0, subst (λ n. length b.bytes ≤ n) (sym spent.bytes_each) fit.1)) kept.blocks kept.ready.fit;
            room = (omega (arith, none), omega (arith, none));
          }

      module _ (near : lies_too_far (history_of a) ≡ false) (audit : Roomy Entry) (empty : audit.items ≡ []) where
        -- what is kept beside the audit is again what the history says
        pub truncated-cached : (fresh : Fresh) → Spends a.in_flight_count a.fresh fresh → audit.room ≡ a.capacity → IsCached (record a { start = new; audit = audit; fresh = fresh; told = new.before })
        truncated-cached fresh spent room =
            IsCached-rotated a kept new audit fresh new.before (told-now fresh spent) begins-behind empty room (few-behind a kept new near begins-behind) stays-kept

        -- and it is a rotation with its part dropped
        pub is-truncated : Truncates (history_of a) (Ok tt) (history_of (record a { start = new; audit = audit }))
        is-truncated = (
          record { start = a.start; entries = a.audit.items; end = new },
          (
            near,
            record {
              start_is = refl;
              entries_are = refl;
              end_is = begins-behind;
              lengths = lengths-stay;
              declared = (policy-stays, policy-stays);
              goes_on = record {
                policy = refl;
                granted = λ client on right. refl;
                held = λ queue id client on right. refl;
                memory = refl;
                signals = refl;
                opened = refl;
                queues = refl;
                packets = refl;
                before = refl;
              };
              kernels_are = refl;
              capacity_is = refl;
              empty = empty;
            },
          ),
        )

  -- ---- as the call leaves it

  -- the start, in its memory, and what is kept of queues and packets
  abbrev start_behind : Origin → List QueueOrigin → List PacketOrigin → ℕ → Origin
  start_behind moved queues packets before = record moved { opened = a.opened; queues = queues; packets = packets; before = before }

  module _ (near : lies_too_far (history_of a) ≡ false) (start : Origin) (start_is : start ≡ a.start) (list : Roomy Entry) (list_is : list ≡ a.audit) (moved : Origin) (moves : MovesOn start list.items moved)
      (queues : List QueueOrigin) (queues_are : queues ≡ map queue_origin a.queues.items) (kept_queues : List Queue) (same : kept_queues ≡ a.queues.items)
      (packets : List PacketOrigin) (told : (blocks : List ArgumentBlock) → MayTell kept_queues a.in_flight_count a.told moved.packets a.fresh blocks → packets ≡ filter_map (packet_origin kept_queues) blocks)
      (before : ℕ) (before_is : before ≡ a.start.before + length a.audit.items) (audit : Roomy Entry) (empty : audit.items ≡ []) where
    moved-on : MovesOn a.start a.audit.items moved
    moved-on = subst (λ (o : Origin). MovesOn o a.audit.items moved) start_is (subst (λ (l : Roomy Entry). MovesOn start l.items moved) list_is moves)

    made : start_behind moved queues packets before ≡ start_behind moved (map queue_origin a.queues.items) (filter_map (packet_origin a.queues.items) kept.blocks) (a.start.before + length a.audit.items)
    made = λ i. start_behind moved (queues_are i) (told-anew moved moved-on kept_queues same packets told i) (before_is i)

    pub left-cached : (fresh : Fresh) → Spends a.in_flight_count a.fresh fresh → audit.room ≡ length list.items + list.room
        → IsCached (record a { start = start_behind moved queues packets before; audit = audit; fresh = fresh; told = before })
    left-cached fresh spent room =
        truncated-cached moved moved-on (start_behind moved queues packets before) made near audit empty fresh spent
        (audit-room audit (room ∙ ap (λ (l : Roomy Entry). length l.items + l.room) list_is))

    pub left-truncated : Truncates (history_of a) (Ok tt) (history_of (record a { start = start_behind moved queues packets before; audit = audit }))
    left-truncated = is-truncated moved moved-on (start_behind moved queues packets before) made near audit empty
