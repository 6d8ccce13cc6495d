-- What isn't there: memory outside the regions stays 0, and of a packet that isn't in flight nothing is told.
use Rattle.std.proofs.Common.{◌≡◌, ℕ, ◌+◌, ◌-◌, ◌^◌, ◌<◌, ◌≤◌, List, [], ◌∷◌, ◌++◌, length, refl, sym, ◌∙◌, ap, subst, Bool, true, false, Some, None, inl, inr, append_assoc, arith}
use Rattle.std.specs.Prelude.{◌&&◌, ◌||◌, ◌==◌, ◌⊎◌, All, find, fold, nat_le, nat_lt, slice_index, if◌then◌else◌}
use Rattle.std.specs.List.{list_any}
use Rattle.std.proofs.lemmas.Bool.{and_parts, eqb-true, leb-true, ltb-false, ltb-true}
use Rattle.std.proofs.lemmas.List.{append-nil}
use Rattle.std.proofs.lemmas.List.Elements.{All-head, All-tail}
use Rattle.aql_packet.specs.Ids.{same_packet}
use Rattle.aql_packet.specs.Memory.{are_region_lengths}
use Rattle.aql_packet.specs.declared.ids.ClientId.{ClientId}
use Rattle.aql_packet.specs.declared.ids.QueueId.{QueueId}
use Rattle.aql_packet.specs.declared.ids.PacketId.{PacketId}
use Rattle.policy.specs.declared.object.Object.{Object}
use Rattle.policy.specs.declared.rights.Right.{Right}
use Rattle.policy.specs.Policy.{region_lengths}
use Rattle.regions.specs.Memory.{is_within, lies_in_region, offset_of, region_length, region_of}
use Rattle.core_model.specs.declared.entry.Effect.{Effect}
use Rattle.core_model.specs.declared.entry.Effect.TheVariants.{Write, Signal, Release}
use Rattle.core_model.specs.declared.entry.Entry.{Entry}
use Rattle.core_model.specs.declared.event.Event.{Event}
use Rattle.core_model.specs.declared.event.Event.TheVariants.{Open, Take, Reload, Call}
use Rattle.core_model.specs.declared.call.Call.TheVariants.{Grant, Revoke, Stop, Close, RunNext, Poll, Finish, HostWrite, ChangeSignal}
use Rattle.core_model.specs.declared.flight.InFlight.{InFlight}
use Rattle.core_model.specs.declared.flight.Progress.{Progress}
use Rattle.core_model.specs.declared.flight.TheConstants.{LAUNCH_PROGRESS}
use Rattle.core_model.specs.declared.outcome.Outcome.{Outcome}
use Rattle.core_model.specs.declared.outcome.Outcome.TheVariants as outcome
use Rattle.core_model.specs.declared.outcome.Polled.TheVariants as polled
use Rattle.core_model.specs.declared.outcome.Taken.TheVariants as taken
use Rattle.core_model.specs.declared.outcome.Worked.TheVariants as worked
use Rattle.core_model.specs.History.{Start, effects_of}
use Rattle.core_model.specs.Memory.{byte_after, memory_at}
use Rattle.core_model.specs.Flight.{flight, in_flight, is_packet, launched_by, progress, progress_by, releases, satisfied_by_either}
use Rattle.core_model.specs.Holds.{arguments, held, is_launch}
use Rattle.core_model.specs.Owed.{enters, owed}
use Rattle.core_model.specs.Legal.{IsLegal, IsLegalAfter, IsWhole}
use Rattle.core_model.specs.Headline.{IsGroupWrite, IsHostWrite, WriteIsGranted}
use Rattle.core_model.proofs.Behind.{all, any-launched, any-left, first, held-flies, no-arguments, same-state}
use Rattle.core_model.proofs.Changes.{write-granted}
use Rattle.core_model.proofs.Entered.{HasFailed, HasSeen, poll-entered, run-entered}
use Rattle.core_model.proofs.Legality.{IsWhole-more}
use Rattle.core_model.proofs.More.{flight-more, memory_at-more, progress-more}
use Rattle.core_model.proofs.Viewing.{small-region}

-- ---- what stays with each entry holds behind any

module _ (start : Start) (Fact : List Entry → Type 0)
    (more : (es : List Entry) (e : Entry) → IsWhole start es → owed start es e.event ≡ enters e.outcome e.effects → Fact es → Fact (es ++ e ∷ [])) where
  behind : (before es : List Entry) → IsWhole start before → Fact before → IsLegalAfter start before es → Fact (before ++ es)
  behind before [] whole fact rest = subst Fact (sym (append-nil before)) fact
  behind before (e ∷ es) whole fact rest =
      subst Fact (append_assoc before (e ∷ []) es)
      (behind (before ++ e ∷ []) es (IsWhole-more start before e.event e.outcome e.effects whole rest.0) (more before e whole rest.0 fact) rest.1)

  pub by-entries : (es : List Entry) → IsWhole start es → Fact [] → Fact es
  by-entries es whole fact = behind [] es (record { opens = whole.opens; legal = tt }) fact whole.legal

-- ---- memory

-- an address outside the regions is none of a range that lies whole in one
outside-range : (lengths : List ℕ) → are_region_lengths lengths ≡ true → (address size x : ℕ) → is_within lengths address size ≡ true → lies_in_region lengths x ≡ false
    → (nat_le address x && nat_lt x (address + size)) ≡ false
outside-range lengths fit address size x within outside = by_test (nat_le address x && nat_lt x (address + size)) refl
  where
    by_test : (b : Bool) → (nat_le address x && nat_lt x (address + size)) ≡ b → (nat_le address x && nat_lt x (address + size)) ≡ false
    by_test false is = is
    by_test true is =
        let both = and_parts (nat_le address x) (nat_lt x (address + size)) is in
        let from : address ≤ x = leb-true address x both.0 in
        let to : x < address + size = ltb-true x (address + size) both.1 in
        let lies = and_parts (lies_in_region lengths address) _ within in
        let ends : offset_of address + size ≤ region_length lengths (region_of address) = leb-true _ _ lies.1 in
        let small : region_length lengths (region_of address) ≤ 2 ^ 24 = small-region lengths fit (region_of address) in
        let past : region_length lengths (region_of x) ≤ offset_of x = ltb-false _ _ outside in
        let same : region_of x ≡ region_of address = omega (arith, from, to, ends, small) in
        let past_here : region_length lengths (region_of address) ≤ offset_of x = subst (λ (n : ℕ). region_length lengths n ≤ offset_of x) same past in
        absurd (omega (arith, from, to, ends, small, same, past_here))

module _ (start : Start) (fit : are_region_lengths (region_lengths start.policy) ≡ true) (x : ℕ) (outside : lies_in_region (region_lengths start.policy) x ≡ false) where
  untouched : (before : List Entry) (event : Event) (effects : List Effect) → All (WriteIsGranted start before event) effects → fold (byte_after x) 0 effects ≡ 0
  untouched before event [] granted = refl
  untouched before event (effect ∷ effects) granted =
      ap (λ (byte : ℕ). fold (byte_after x) byte effects) (one effect (All-head (WriteIsGranted start before event) effect effects granted))
      ∙ untouched before event effects (All-tail (WriteIsGranted start before event) effect effects granted)
    where
      reach : (address : ℕ) (bytes : List ℕ) → IsHostWrite start before event address bytes ⊎ IsGroupWrite start before event address bytes → is_within (region_lengths start.policy) address (length bytes) ≡ true
      reach address bytes (inl host) = host.allowed.lies_whole
      reach address bytes (inr group) = group.allowed.lies_whole

      one : (effect : Effect) → WriteIsGranted start before event effect → byte_after x 0 effect ≡ 0
      one (Write address bytes) so =
          ap (λ (b : Bool). if b then slice_index bytes (x - address.0) else 0)
          (outside-range (region_lengths start.policy) fit address.0 (length bytes) x (reach address.0 bytes so.1) outside)
      one (Signal signal old new) so = refl
      one (Release queue id) so = refl

  zero-first : start.memory x ≡ 0 → memory_at start [] x ≡ 0
  unfolding memory_at effects_of
  zero-first none = none

  zero-whole : (es : List Entry) → IsWhole start es → memory_at start es x ≡ 0
  zero-whole es whole =
      by-entries start (λ now. memory_at start now x ≡ 0)
      (λ es e whole owing none. memory_at-more start es e x ∙ ap (λ (byte : ℕ). fold (byte_after x) byte e.effects) none ∙ untouched es e.event e.effects (write-granted start es whole fit e.event e.outcome e.effects owing))
      es whole (zero-first (ap (λ (now : Start). now.memory x) whole.opens))

-- ---- packets

-- what is found is there
found-any : {X : Type 0} (test : X → Bool) (xs : List X) (f : X) → find test xs ≡ Some f → list_any test xs ≡ true
found-any test [] f found = absurd cc
found-any test (x ∷ xs) f found = grind (arith, found-any test xs f)

none-any : {X : Type 0} (test : X → Bool) (xs : List X) → find test xs ≡ None → list_any test xs ≡ false
none-any test [] none = refl
none-any test (x ∷ xs) none = grind (arith, none-any test xs)

module _ (start : Start) (queue : QueueId) (id : PacketId) where
  abbrev flies : List Entry → Bool
  flies es = list_any (is_packet queue id) (flight start es)

  -- a packet that is found in flight is another one where this one isn't in flight
  other-found : (es : List Entry) (q : QueueId) (i : PacketId) (f : InFlight) → in_flight start es q i ≡ Some f → flies es ≡ false → same_packet q i queue id ≡ false
  other-found es q i f found none = by_test (same_packet q i queue id) refl
    where
      by_test : (b : Bool) → same_packet q i queue id ≡ b → same_packet q i queue id ≡ false
      by_test false is = is
      by_test true is =
          let both = and_parts (q.0 == queue.0) (i.0 == id.0) is in
          let same_queue : q ≡ queue = ap (λ n. record { 0 = n }) (eqb-true _ _ both.0) in
          let same_id : i ≡ id = ap (λ n. record { 0 = n }) (eqb-true _ _ both.1) in
          let there : list_any (is_packet q i) (flight start es) ≡ true = found-any (is_packet q i) (flight start es) f found in
          let here : flies es ≡ true = subst (λ (n : PacketId). list_any (is_packet queue n) (flight start es) ≡ true) same_id (subst (λ (n : QueueId). list_any (is_packet n i) (flight start es) ≡ true) same_queue there) in
          absurd cc

  -- its progress stays that of a launch
  either : (b : Bool) (p : Progress) → p ≡ LAUNCH_PROGRESS → (if b then LAUNCH_PROGRESS else p) ≡ LAUNCH_PROGRESS
  either true p none = refl
  either false p none = none

  taken-stays : (q : QueueId) (i : PacketId) (bytes : List ℕ) (told : Outcome) (p : Progress) → p ≡ LAUNCH_PROGRESS → progress_by queue id p (Take q i bytes) told ≡ LAUNCH_PROGRESS
  taken-stays q i bytes outcome.Accepted p none = none
  taken-stays q i bytes (outcome.Opened opened) p none = none
  taken-stays q i bytes (outcome.Taken taken.Launched) p none = either (same_packet q i queue id) p none
  taken-stays q i bytes (outcome.Taken (taken.Denied error)) p none = none
  taken-stays q i bytes (outcome.Taken (taken.Waiting cause)) p none = none
  taken-stays q i bytes (outcome.Worked worked) p none = none
  taken-stays q i bytes (outcome.Polled polled) p none = none
  taken-stays q i bytes (outcome.Changed old) p none = none

  run-stays : (q : QueueId) (i : PacketId) (told : Outcome) (p : Progress) → same_packet q i queue id ≡ false → progress_by queue id p (Call (RunNext q i)) told ≡ p
  run-stays q i outcome.Accepted p other = refl
  run-stays q i (outcome.Opened opened) p other = refl
  run-stays q i (outcome.Taken became) p other = refl
  run-stays q i (outcome.Worked (worked.Ran group left)) p other = ap (λ (b : Bool). if b then record p { groups_run = p.groups_run + 1 } else p) other
  run-stays q i (outcome.Worked (worked.Faulted error)) p other = refl
  run-stays q i (outcome.Worked worked.Done) p other = refl
  run-stays q i (outcome.Polled polled) p other = refl
  run-stays q i (outcome.Changed old) p other = refl

  poll-stays : (q : QueueId) (i : PacketId) (told : Outcome) (p : Progress) → same_packet q i queue id ≡ false → progress_by queue id p (Call (Poll q i)) told ≡ p
  poll-stays q i outcome.Accepted p other = refl
  poll-stays q i (outcome.Opened opened) p other = refl
  poll-stays q i (outcome.Taken became) p other = refl
  poll-stays q i (outcome.Worked worked) p other = refl
  poll-stays q i (outcome.Polled (polled.Pending seen)) p other = ap (λ (b : Bool). if b then record p { satisfied = satisfied_by_either p.satisfied seen } else p) other
  poll-stays q i (outcome.Polled (polled.Ready seen)) p other = ap (λ (b : Bool). if b then record p { satisfied = satisfied_by_either p.satisfied seen } else p) other
  poll-stays q i (outcome.Polled (polled.Failed error)) p other = refl
  poll-stays q i (outcome.Changed old) p other = refl

  stays : (es : List Entry) (event : Event) (told : Outcome) (effects : List Effect) → owed start es event ≡ enters told effects → flies es ≡ false → (p : Progress) → p ≡ LAUNCH_PROGRESS
      → progress_by queue id p event told ≡ LAUNCH_PROGRESS
  stays es (Call (Grant client on rights)) told effects owing none p is = is
  stays es (Call (Revoke client on rights)) told effects owing none p is = is
  stays es (Open client agent size) told effects owing none p is = is
  stays es (Call (Stop q)) told effects owing none p is = is
  stays es (Call (Close q)) told effects owing none p is = is
  stays es (Take q i bytes) told effects owing none p is = taken-stays q i bytes told p is
  stays es (Call (RunNext q i)) told effects owing none p is =
      let ran = run-entered start es told effects q i owing in
      run-stays q i told p (other-found es q i ran.flying ran.found none) ∙ is
  stays es (Call (Poll q i)) told effects owing none p is = by_poll (poll-entered start es told effects q i owing)
    where
      by_poll : HasSeen start es told effects q i ⊎ HasFailed start es told effects q i → progress_by queue id p (Call (Poll q i)) told ≡ LAUNCH_PROGRESS
      by_poll (inl seen) = poll-stays q i told p (other-found es q i seen.flying seen.found none) ∙ is
      by_poll (inr failed) = poll-stays q i told p (other-found es q i failed.flying failed.found none) ∙ is
  stays es (Call (Finish q i)) told effects owing none p is = is
  stays es (Call (HostWrite client address bytes)) told effects owing none p is = is
  stays es (Call (ChangeSignal client signal operation)) told effects owing none p is = is
  stays es (Reload rows) told effects owing none p is = is

  abbrev IsAtLaunch : List Entry → Type 0
  IsAtLaunch es = flies es ≡ false → progress start es queue id ≡ LAUNCH_PROGRESS

  launch-first : start.progress queue id ≡ LAUNCH_PROGRESS → IsAtLaunch []
  unfolding progress
  launch-first is none = is

  launch-more : (es : List Entry) (e : Entry) → owed start es e.event ≡ enters e.outcome e.effects → IsAtLaunch es → IsAtLaunch (es ++ e ∷ [])
  launch-more es e owing before none = progress-more start es e queue id ∙ by_release (list_any (releases queue id) e.effects) refl
    where
      so_far : Progress
      so_far = progress_by queue id (progress start es queue id) e.event e.outcome

      gone : list_any (releases queue id) e.effects ≡ false → (b : Bool) → (flies es || is_launch queue id (launched_by e.event e.outcome)) ≡ b → flies es ≡ false
      gone kept false is = grind arith
      gone kept true is =
          let here : flies (es ++ e ∷ []) ≡ true =
          ap (list_any (is_packet queue id)) (flight-more start es e)
          ∙ any-left queue id e.effects _ kept (any-launched queue id (flight start es) (launched_by e.event e.outcome) is) in
          absurd cc

      by_release : (b : Bool) → list_any (releases queue id) e.effects ≡ b → (if b then LAUNCH_PROGRESS else so_far) ≡ LAUNCH_PROGRESS
      by_release true is = refl
      by_release false is =
          let absent : flies es ≡ false = gone is (flies es || is_launch queue id (launched_by e.event e.outcome)) refl in
          stays es e.event e.outcome e.effects owing absent (progress start es queue id) (before absent)

  launch-whole : (es : List Entry) → IsWhole start es → IsAtLaunch es
  launch-whole es whole = by-entries start IsAtLaunch (λ es e whole owing. launch-more es e owing) es whole (launch-first (ap (λ (now : Start). now.progress queue id) whole.opens))

-- ---- the same of any legal history

module _ (s : Start) (es : List Entry) (legal : IsLegal s es) where
  pub zero-outside : are_region_lengths (region_lengths s.policy) ≡ true → (x : ℕ) → lies_in_region (region_lengths s.policy) x ≡ false → memory_at s es x ≡ 0
  zero-outside fit x outside =
      let same : region_lengths s.policy ≡ region_lengths legal.first = ap (λ (now : Start). region_lengths now.policy) legal.start_is in
      subst (λ (now : Start). now.memory x ≡ 0) (same-state s es legal)
      (zero-whole (first s es legal) (ap are_region_lengths (sym same) ∙ fit) x (ap (λ (lengths : List ℕ). lies_in_region lengths x) (sym same) ∙ outside) (all s es legal) legal.whole)

  pub launch-absent : (queue : QueueId) (id : PacketId) → list_any (is_packet queue id) (flight s es) ≡ false → progress s es queue id ≡ LAUNCH_PROGRESS
  launch-absent queue id =
      subst (λ (now : Start). list_any (is_packet queue id) now.flight ≡ false → now.progress queue id ≡ LAUNCH_PROGRESS) (same-state s es legal)
      (launch-whole (first s es legal) queue id (all s es legal) legal.whole)

  pub launch-unfound : (queue : QueueId) (id : PacketId) → in_flight s es queue id ≡ None → progress s es queue id ≡ LAUNCH_PROGRESS
  launch-unfound queue id none = launch-absent queue id (none-any (is_packet queue id) (flight s es) none)

  pub no-arguments-unfound : (queue : QueueId) (id : PacketId) → in_flight s es queue id ≡ None → arguments s es queue id ≡ []
  no-arguments-unfound queue id none = no-arguments s es legal queue id (none-any (is_packet queue id) (flight s es) none)

  pub unheld-unfound : (queue : QueueId) (id : PacketId) (client : ClientId) (on : Object) (right : Right) → in_flight s es queue id ≡ None → held s es queue id client on right ≡ false
  unheld-unfound queue id client on right none = by_held (held s es queue id client on right) refl
    where
      by_held : (b : Bool) → held s es queue id client on right ≡ b → held s es queue id client on right ≡ false
      by_held false is = is
      by_held true is =
          let there : list_any (is_packet queue id) (flight s es) ≡ true = held-flies s es legal queue id client on right is in
          let nowhere : list_any (is_packet queue id) (flight s es) ≡ false = none-any (is_packet queue id) (flight s es) none in
          absurd cc
