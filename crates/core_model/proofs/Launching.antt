-- Launches: what the launch rules say of a packet that was launched, and the rights that it has then.
use Rattle.std.proofs.Common.{◌≡◌, ℕ, List, [], ◌∷◌, ◌++◌, refl, sym, ◌∙◌, ap, subst, Bool, true, false, Option, Some, None, inl, inr, append_assoc, arith}
use Rattle.std.specs.Prelude.{All, not, ◌==◌, if◌then◌else◌, option_map}
use Rattle.std.specs.Option.{unwrap_or}
use Rattle.std.specs.List.{flat_map, list_all}
use Rattle.std.proofs.lemmas.Bool.{and_parts, eqb-true}
use Rattle.std.proofs.lemmas.List.{append-nil}
use Rattle.std.proofs.lemmas.List.Elements.{All-nil, All-cons, All-append, All-weaker}
use Rattle.std.proofs.lemmas.List.Folds.{list_all-append}
use Rattle.aql_packet.specs.declared.ids.QueueId.{QueueId}
use Rattle.aql_packet.specs.declared.ids.PacketId.{PacketId}
use Rattle.aql_packet.specs.declared.ids.SignalHandle.{SignalHandle}
use Rattle.aql_packet.specs.declared.packet.Packet.{Packet}
use Rattle.aql_packet.specs.declared.packet.Packet.TheVariants as packet
use Rattle.aql_packet.specs.Reading.{packet_at, packet_type, refusal, decoded}
use Rattle.aql_packet.proofs.ReadingLemmas.{decoded_is, decoded_is_laid}
use Rattle.kernel_check.specs.Programs.{Program}
use Rattle.policy.proofs.NameLemmas.{numbered-map}
use Rattle.policy.specs.Policy.{numbered, region_lengths}
use Rattle.policy.specs.declared.object.Object.TheVariants as object
use Rattle.policy.specs.declared.rights.Right.{Right}
use Rattle.policy.specs.declared.rights.Right.TheVariants as right
use Rattle.regions.specs.Memory.{is_within}
use Rattle.queue_error.specs.declared.rule.Rule.{Rule}
use Rattle.queue_error.specs.declared.rule.Rule.TheVariants as rule
use Rattle.core_model.specs.declared.event.Event.TheVariants.{Take}
use Rattle.core_model.specs.declared.outcome.Outcome.TheVariants as outcome
use Rattle.core_model.specs.declared.outcome.Taken.TheVariants as taken
use Rattle.core_model.specs.declared.entry.Effect.{Effect}
use Rattle.core_model.specs.declared.entry.Entry.{Entry}
use Rattle.core_model.specs.declared.need.AgentFunction.{AgentFunction}
use Rattle.core_model.specs.declared.need.AgentFunction.TheVariants.{Fill, Copy, Add64}
use Rattle.core_model.specs.declared.kernel.KernelSegments.{KernelSegments}
use Rattle.core_model.specs.declared.need.Range.{Range}
use Rattle.core_model.specs.declared.need.Subject.TheVariants as subject
use Rattle.core_model.specs.History.{Start}
use Rattle.core_model.specs.Grants.{in_force}
use Rattle.core_model.specs.Queues.{Opening}
use Rattle.core_model.specs.Needs.{needs, function_of, function_needs, range_need, signal_need, result_range, range_at, completion_signal, dependencies, kernel_needs, memory_needs}
use Rattle.core_model.specs.Kernels.{kernel_of, no_kernel, segments_of}
use Rattle.core_model.specs.LaunchRules.{Facts, first_failing_rule, has_arguments, has_form, holds_rule, need_is_met, launch_rules}
use Rattle.core_model.specs.Owed.{owed, enters, error_without_place, facts_of}
use Rattle.core_model.specs.Legal.{IsWhole, IsLegalAfter}
use Rattle.core_model.specs.Headline.{IsEntryBehind, MayBeLaunched, MayReachRange, MayUseSignal, HasItsRights, argument_ranges, kernels_of, ranges_read, ranges_written, reads_of, writes_of}
use Rattle.core_model.proofs.Lists.{none-passes}
use Rattle.core_model.proofs.Entered.{take-decided}

-- ---- an entry of a legal history is what its event was owed behind a legal history

legal-split : (start : Start) (pre before : List Entry) (e : Entry) (after : List Entry) → IsLegalAfter start pre (before ++ e ∷ after) →
    IsLegalAfter start pre before × (owed start (pre ++ before) e.event ≡ enters e.outcome e.effects)
legal-split start pre [] e after legal = (tt, rw append-nil legal.0)
legal-split start pre (x ∷ xs) e after legal =
    let rest = legal-split start (pre ++ x ∷ []) xs e after legal.1 in
    let owing = rest.1 in
    ((legal.0, rest.0), rw append_assoc at owing)

pub legal-at : (start : Start) (entries before : List Entry) (e : Entry) → IsWhole start entries → IsEntryBehind entries before e →
    IsWhole start before × (owed start before e.event ≡ enters e.outcome e.effects)
legal-at start entries before e legal stands =
    let both = legal-split start [] before e stands.after (subst (IsLegalAfter start []) stands.whole legal.legal) in
    (record { opens = legal.opens; legal = both.0 }, both.1)

-- ---- launches

-- the rules hold where none fails
every-rule : (facts : Facts) (bytes : List ℕ) → first_failing_rule facts bytes ≡ None → All (λ r. holds_rule facts bytes (packet_at (packet_type bytes) bytes) r ≡ true) launch_rules
unfolding first_failing_rule
every-rule facts bytes none = All-weaker Holds (λ r. holds_rule facts bytes p r ≡ true) (λ r is. held (holds_rule facts bytes p r) is) launch_rules all
  where
    p : Packet
    p = packet_at (packet_type bytes) bytes

    Holds : Rule → Type 0
    Holds r = not (holds_rule facts bytes p r) ≡ false

    all : All Holds launch_rules
    all = none-passes (λ r. not (holds_rule facts bytes p r)) launch_rules none

    held : (b : Bool) → not b ≡ false → b ≡ true
    held true same = refl
    held false same = absurd cc

-- bytes that meet the first three rules lay out a packet
decoded-passing : (facts : Facts) (bytes : List ℕ) → All (λ r. holds_rule facts bytes (packet_at (packet_type bytes) bytes) r ≡ true) launch_rules → decoded bytes ≡ Some (packet_at (packet_type bytes) bytes)
unfolding refusal
decoded-passing facts bytes each =
    let one : holds_rule facts bytes (packet_at (packet_type bytes) bytes) rule.L1 ≡ true = each 0 rule.L1 (omega arith) in
    let two : holds_rule facts bytes (packet_at (packet_type bytes) bytes) rule.L2 ≡ true = each 1 rule.L1 (omega arith) in
    let three : holds_rule facts bytes (packet_at (packet_type bytes) bytes) rule.L3 ≡ true = each 2 rule.L1 (omega arith) in
    decoded_is bytes (rw (one, two, three) refl)

-- ---- the rights that the rules ask for

-- what each rule needs is met where it holds
pub needs-met : (facts : Facts) (bytes : List ℕ) (p : Packet) → All (λ r. holds_rule facts bytes p r ≡ true) launch_rules → (r : Rule) → list_all (need_is_met facts) (needs r facts.agent p) ≡ true
needs-met facts bytes p each rule.L4 = let holds : holds_rule facts bytes p rule.L4 ≡ true = each 3 rule.L1 (omega arith) in (and_parts (has_form facts p rule.L4) _ holds).1
needs-met facts bytes p each rule.L6 = each 5 rule.L1 (omega arith)
needs-met facts bytes p each rule.L8 = let holds : holds_rule facts bytes p rule.L8 ≡ true = each 7 rule.L1 (omega arith) in (and_parts (has_form facts p rule.L8) _ holds).1
needs-met facts bytes p each rule.L9 = each 8 rule.L1 (omega arith)
needs-met facts bytes p each rule.L10 = each 9 rule.L1 (omega arith)
needs-met facts bytes p each _ = refl

module _ (start : Start) (es : List Entry) (opening : Opening) where
  abbrev facts : Facts
  facts = facts_of start es opening

  signal-met : (right : Right) (s : SignalHandle) → list_all (need_is_met facts) (signal_need right s) ≡ true → MayUseSignal start es opening.client right s
  signal-met right s met = by_test (s.0 == 0) refl met
    where
      by_test : (b : Bool) → (s.0 == 0) ≡ b → list_all (need_is_met facts) (if b then [] else record { subject = subject.Object (object.Signal s); right = right } ∷ []) ≡ true → MayUseSignal start es opening.client right s
      by_test true is met = inl (eqb-true _ _ is)
      by_test false is met = inr (and_parts (in_force start es opening.client (object.Signal s) right) true met).0

  signals-met : (right : Right) (ss : List SignalHandle) → list_all (need_is_met facts) (flat_map (signal_need right) ss) ≡ true → All (MayUseSignal start es opening.client right) ss
  signals-met right [] met = All-nil _
  signals-met right (s ∷ ss) met =
      let both = and_parts (list_all (need_is_met facts) (signal_need right s)) _ (sym (list_all-append (need_is_met facts) (signal_need right s) (flat_map (signal_need right) ss)) ∙ met) in
      All-cons (MayUseSignal start es opening.client right) s ss (signal-met right s both.0) (signals-met right ss both.1)

  range-met : (right : Right) (range : Range) → list_all (need_is_met facts) (range_need right range) ≡ true → MayReachRange start es opening.client right range
  range-met right range met = by_test (range.size == 0) refl met
    where
      by_test : (b : Bool) → (range.size == 0) ≡ b → list_all (need_is_met facts) (if b then [] else record { subject = subject.Range range; right = right } ∷ []) ≡ true → MayReachRange start es opening.client right range
      by_test true is met = inl (eqb-true _ _ is)
      by_test false is met =
          let need = and_parts (need_is_met facts (record { subject = subject.Range range; right = right })) true met in
          let both = and_parts (is_within (region_lengths start.policy) range.address.0 range.size) _ need.0 in
          inr (record { lies_whole = both.0; granted = both.1 })

  one-met : (right : Right) (range : Range) → list_all (need_is_met facts) (range_need right range) ≡ true → All (MayReachRange start es opening.client right) (range ∷ [])
  one-met right range met = All-cons (MayReachRange start es opening.client right) range [] (range-met right range met) (All-nil _)

  two-met : (range target : Range) → list_all (need_is_met facts) (range_need right.Read range ++ range_need right.Write target) ≡ true →
      All (MayReachRange start es opening.client right.Read) (range ∷ []) × All (MayReachRange start es opening.client right.Write) (target ∷ [])
  two-met range target met =
      let both = and_parts (list_all (need_is_met facts) (range_need right.Read range)) _ (sym (list_all-append (need_is_met facts) (range_need right.Read range) (range_need right.Write target)) ∙ met) in
      (one-met right.Read range both.0, one-met right.Write target both.1)

  function-met : (function : Option AgentFunction) → list_all (need_is_met facts) (function_needs function) ≡ true →
      All (MayReachRange start es opening.client right.Read) (ranges_read function) × All (MayReachRange start es opening.client right.Write) (ranges_written function)
  function-met None met = (All-nil _, All-nil _)
  function-met (Some (Fill target byte)) met = (All-nil _, one-met right.Write target met)
  function-met (Some (Copy source target)) met = two-met source target met
  function-met (Some (Add64 number addend)) met = two-met number number met

  -- a packet whose needs are met has its rights
  pub has-rights : (p : Packet) → ((r : Rule) → list_all (need_is_met facts) (needs r opening.agent p) ≡ true) → HasItsRights start es opening p
  has-rights p met = record {
    agent = (and_parts (in_force start es opening.client (object.Agent opening.agent) right.Use) true (met rule.L4)).0;
    launches = kernels p (met rule.L6);
    waits = signals-met right.Wait (dependencies p) (met rule.L9);
    completes = signal-met right.Change (completion_signal p) (met rule.L10);
    reads = (memory p (met rule.L8)).0;
    writes = (memory p (met rule.L8)).1;
  }
    where
      kernels : (p : Packet) → list_all (need_is_met facts) (kernel_needs p) ≡ true → All (λ kernel. in_force start es opening.client (object.Kernel kernel) right.Launch ≡ true) (kernels_of p)
      kernels (packet.Kernel d) met =
          All-cons (λ kernel. in_force start es opening.client (object.Kernel kernel) right.Launch ≡ true) d.kernel_object []
          (and_parts (in_force start es opening.client (object.Kernel d.kernel_object) right.Launch) true met).0 (All-nil _)
      kernels (packet.Agent _) met = All-nil _
      kernels (packet.BarrierAnd _) met = All-nil _
      kernels (packet.BarrierOr _) met = All-nil _

      memory : (p : Packet) → list_all (need_is_met facts) (memory_needs p) ≡ true → All (MayReachRange start es opening.client right.Read) (reads_of p) × All (MayReachRange start es opening.client right.Write) (writes_of p)
      memory (packet.Agent d) met =
          let both = and_parts (list_all (need_is_met facts) (function_needs (function_of d))) _ (sym (list_all-append (need_is_met facts) (function_needs (function_of d)) (range_need right.Write (result_range d))) ∙ met) in
          let own = function-met (function_of d) both.0 in
          (own.0, All-append (MayReachRange start es opening.client right.Write) (ranges_written (function_of d)) (result_range d ∷ []) own.1 (one-met right.Write (result_range d) both.1))
      memory (packet.Kernel _) met = (All-nil _, All-nil _)
      memory (packet.BarrierAnd _) met = (All-nil _, All-nil _)
      memory (packet.BarrierOr _) met = (All-nil _, All-nil _)

  -- the argument block of a kernel dispatch may be read
  passes-segments : (o : Option Program) (test : KernelSegments → Bool) → (elim (option_map segments_of o) [ None ↦ false | Some kernel ↦ test kernel ]) ≡ true → test (segments_of (unwrap_or o no_kernel)) ≡ true
  passes-segments None test met = absurd cc
  passes-segments (Some kernel) test met = met

  pub arguments-met : (p : Packet) → has_arguments facts p ≡ true → All (MayReachRange start es opening.client right.Read) (argument_ranges start p)
  arguments-met (packet.Kernel d) met =
      let passes = λ (kernel : KernelSegments). list_all (need_is_met facts) (range_need right.Read (range_at d.kernarg_address.0 kernel.kernarg)) in
      one-met right.Read (range_at d.kernarg_address.0 (kernel_of start d).argument_bytes)
      (passes-segments (numbered start.kernels d.kernel_object.0) passes
      (sym (ap (λ (o : Option KernelSegments). elim o [ None ↦ false | Some kernel ↦ passes kernel ]) (numbered-map segments_of start.kernels d.kernel_object.0)) ∙ met))
  arguments-met (packet.Agent _) met = All-nil _
  arguments-met (packet.BarrierAnd _) met = All-nil _
  arguments-met (packet.BarrierOr _) met = All-nil _

-- ---- a launch that was owed was granted

pub record IsGranted (start : Start) (es : List Entry) (queue : QueueId) (id : PacketId) (bytes : List ℕ) (effects : List Effect) : Type 0 where
  pub opening : Opening
  pub packet : Packet
  pub allowed : MayBeLaunched start es queue id bytes opening packet
  pub effects_are : effects ≡ []

pub launch-granted : (start : Start) (es : List Entry) (queue : QueueId) (id : PacketId) (bytes : List ℕ) (effects : List Effect) →
    owed start es (Take queue id bytes) ≡ enters (outcome.Taken taken.Launched) effects → IsGranted start es queue id bytes effects
launch-granted start es queue id bytes effects owing =
    let decided = take-decided start es (outcome.Taken taken.Launched) effects queue id bytes owing in
    let opening = decided.opening in
    let each = every-rule (facts_of start es opening) bytes (none decided.verdict decided.verdict_is decided.outcome_is) in
    let found = decoded-passing (facts_of start es opening) bytes each in
    let p : Packet = packet_at (packet_type bytes) bytes in
    record {
      opening = opening;
      packet = p;
      allowed = record {
        owner_is = decided.owner_is;
        launches_yet = decided.launches_yet;
        id_is_next = decided.id_is_next;
        need_not_wait = decided.need_not_wait;
        is_read = found;
        laid_out = decoded_is_laid bytes p found;
        every_rule = each;
        rights = has-rights start es opening p (needs-met (facts_of start es opening) bytes p each);
        arguments = arguments-met start es opening p (readable (facts_of start es opening) p each);
      };
      effects_are = decided.effects_are;
    }
  where
    readable : (facts : Facts) (p : Packet) → All (λ r. holds_rule facts bytes p r ≡ true) launch_rules → has_arguments facts p ≡ true
    readable facts p each = let holds : holds_rule facts bytes p rule.L8 ≡ true = each 7 rule.L1 (omega arith) in (and_parts (has_form facts p rule.L8) _ holds).0

    none : {X : Option Rule} (verdict : Option Rule) → X ≡ verdict → outcome.Taken taken.Launched ≡ (elim verdict [ None ↦ outcome.Taken taken.Launched | Some r ↦ outcome.Taken (taken.Denied (error_without_place queue id.0 r)) ]) → X ≡ None
    none None is same = is
    none (Some r) is same = absurd cc
