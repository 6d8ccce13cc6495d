-- What a packet's next group tells of it: where it ran or faulted, the packet's work wasn't done.
use Rattle.std.proofs.Common.{◌≡◌, ◌⊎◌, ℕ, List, refl, sym, ap, ◌∙◌, inl, inr}
use Rattle.std.specs.Prelude.{◌≢◌, ℤ, Bool, nat_le, true, false, Option, Some, None, Ok, Err, if◌then◌else◌}
use Rattle.aql_packet.specs.declared.ids.PacketId.{PacketId}
use Rattle.aql_packet.specs.declared.ids.QueueId.{QueueId}
use Rattle.aql_packet.specs.declared.packet.KernelDispatch.{KernelDispatch}
use Rattle.aql_packet.specs.declared.packet.Packet.{Packet}
use Rattle.aql_packet.specs.declared.packet.Packet.TheVariants as packet
use Rattle.executor.specs.Results.{GroupResult, broke_rule, group_result, wrote}
use Rattle.core_model.specs.Flight.{in_flight, progress}
use Rattle.core_model.specs.History.{History, Start, beginning}
use Rattle.core_model.specs.Legal.{Meets, MeetsOrLacks, due, history_after, lacks_room, entry_of, reply_of, within_room}
use Rattle.core_model.specs.Memory.{signals}
use Rattle.core_model.specs.Owed.{Owed, answers, enters, refuses, group_owed, owed, owed_finish, owed_group}
use Rattle.core_model.specs.Queues.{owner}
use Rattle.core_model.specs.declared.origin.Opening.{Opening}
use Rattle.core_model.specs.Refusals.{for_some, refuse_unless}
use Rattle.core_model.specs.View.{GivenAtLaunch, given_at_launch, group_input}
use Rattle.core_model.specs.Work.{group_count}
use Rattle.core_model.specs.declared.call.Call.TheVariants.{Finish, RunNext}
use Rattle.core_model.specs.declared.entry.Effect.{Effect}
use Rattle.core_model.specs.declared.entry.Entry.{Entry}
use Rattle.core_model.specs.declared.event.Event.{Event}
use Rattle.core_model.specs.declared.event.Event.TheVariants.{Call}
use Rattle.core_model.specs.declared.flight.InFlight.{InFlight}
use Rattle.core_model.specs.declared.flight.Progress.{Progress}
use Rattle.core_model.specs.declared.outcome.Outcome.{Outcome}
use Rattle.core_model.specs.declared.outcome.Outcome.TheVariants as outcome
use Rattle.core_model.specs.declared.outcome.Worked.{Worked}
use Rattle.core_model.specs.declared.outcome.Worked.TheVariants as worked
use Rattle.core_model.specs.declared.refusal.Refusal.TheVariants as refusal

-- of what is owed to the next group, and to finishing: the group is refused, or all had run; else finishing is refused, since work is left
abbrev Parts : Owed → Owed → Type 0
Parts run finish =
    ((run ≡ refuses refusal.UnknownQueue) ⊎ (run ≡ refuses refusal.NotInFlight))
    ⊎ ((run ≡ answers (outcome.Worked worked.Done))
    ⊎ ((told : Outcome) × (effects : List Effect) × (run ≡ enters told effects) × (told ≢ outcome.Worked worked.Done) × (finish ≡ refuses refusal.NotFinished)))

by_work : (b : Bool) (told : Outcome) (effects : List Effect) (finished : Owed) → told ≢ outcome.Worked worked.Done → Parts (if b then answers (outcome.Worked worked.Done) else enters told effects) (refuse_unless b (refuses refusal.NotFinished) finished)
by_work true told effects finished other = inr (inl refl)
by_work false told effects finished other = inr (inr (told, effects, refl, other, refl))

module _ (start : Start) (es : List Entry) (queue : QueueId) (id : PacketId) where
  by_group : (b : Bool) (d : KernelDispatch) (group : ℕ) (came : GroupResult) (finished : Owed) → Parts (if b then answers (outcome.Worked worked.Done) else group_owed queue id d group came) (refuse_unless b (refuses refusal.NotFinished) finished)
  by_group b d group (wrote runs) finished = by_work b _ _ finished (λ e. absurd cc)
  by_group b d group (broke_rule f) finished = by_work b _ _ finished (λ e. absurd cc)

  by_packet : (own : GivenAtLaunch) (values : List ℤ) (p : Packet) (so_far : Progress) → Parts (owed_group start es queue id own p so_far) (owed_finish values queue id p so_far)
  by_packet own values (packet.Agent dispatch) so_far = by_work (nat_le 1 so_far.groups_run) _ _ _ (λ e. absurd cc)
  by_packet own values (packet.Kernel d) so_far = by_group (nat_le (group_count (packet.Kernel d)) so_far.groups_run) d so_far.groups_run (group_result (group_input start es own d so_far.groups_run)) _
  by_packet own values (packet.BarrierAnd b) so_far = inl (inr refl)
  by_packet own values (packet.BarrierOr b) so_far = inl (inr refl)

  by_flight : (own : GivenAtLaunch) (values : List ℤ) (so_far : Progress) (found : Option InFlight)
      → Parts (for_some found (refuses refusal.NotInFlight) (λ f. owed_group start es queue id own f.packet so_far)) (for_some found (refuses refusal.NotInFlight) (λ f. owed_finish values queue id f.packet so_far))
  by_flight own values so_far None = inl (inr refl)
  by_flight own values so_far (Some f) = by_packet own values f.packet so_far

  by_owner : (run finish : Owed) (found : Option Opening) → Parts run finish → Parts (for_some found (refuses refusal.UnknownQueue) (λ opening. run)) (for_some found (refuses refusal.UnknownQueue) (λ opening. finish))
  by_owner run finish None parts = inl (inl refl)
  by_owner run finish (Some opening) parts = parts

  parts_of : Parts (owed start es (Call (RunNext queue id))) (owed start es (Call (Finish queue id)))
  unfolding owed
  parts_of = by_owner _ _ (owner start es queue) (by_flight (given_at_launch start es queue id) (signals start es) (progress start es queue id) (in_flight start es queue id))

module _ (queue : QueueId) (id : PacketId) (before after : History) where
  abbrev run : Event
  run = Call (RunNext queue id)

  abbrev finish : Event
  finish = Call (Finish queue id)

  -- a reply that isn't a refusal
  told_in_room : (w : Worked) (told : Outcome) (effects : List Effect) (b : Bool) → Ok (outcome.Worked w) ≡ reply_of (if b then refuses refusal.AuditFull else enters told effects) → told ≡ outcome.Worked w
  told_in_room w told effects true e = absurd cc
  told_in_room w told effects false e = cc

  finish_refused : owed (beginning before) before.entries finish ≡ refuses refusal.NotFinished → Meets finish before before (Err refusal.NotFinished)
  finish_refused is =
      let due_is : due before finish ≡ refuses refusal.NotFinished = ap (within_room before finish) is in
      record { reply_is = sym (ap reply_of due_is); history_is = sym (ap (history_after before finish) due_is) }

  by_parts : (w : Worked) (owing other : Owed) → w ≢ worked.Done → owed (beginning before) before.entries finish ≡ other → Ok (outcome.Worked w) ≡ reply_of (within_room before run owing) → Parts owing other → Meets finish before before (Err refusal.NotFinished)
  by_parts w owing other more is e (inl (inl s)) = let t : Ok (outcome.Worked w) ≡ reply_of (within_room before run (refuses refusal.UnknownQueue)) = e ∙ ap (λ o. reply_of (within_room before run o)) s in absurd cc
  by_parts w owing other more is e (inl (inr s)) = let t : Ok (outcome.Worked w) ≡ reply_of (within_room before run (refuses refusal.NotInFlight)) = e ∙ ap (λ o. reply_of (within_room before run o)) s in absurd cc
  by_parts w owing other more is e (inr (inl s)) = let t : Ok (outcome.Worked w) ≡ reply_of (within_room before run (answers (outcome.Worked worked.Done))) = e ∙ ap (λ o. reply_of (within_room before run o)) s in absurd (more cc)
  by_parts w owing other more is e (inr (inr (told, effects, s, not, refused))) = finish_refused (is ∙ refused)

  -- a group that ran, or faulted: the packet wasn't finished before
  pub unfinished : (w : Worked) → w ≢ worked.Done → MeetsOrLacks run before after (Ok (outcome.Worked w)) → Meets finish before before (Err refusal.NotFinished)
  unfinished w more (inl h) = by_parts w _ _ more refl h.reply_is (parts_of (beginning before) before.entries queue id)
  unfinished w more (inr h) = let e = h.reply_is in absurd cc

  leaves_by_parts : (owing other : Owed) → Ok (outcome.Worked worked.Done) ≡ reply_of (within_room before run owing) → after ≡ history_after before run (within_room before run owing) → Parts owing other → after ≡ before
  leaves_by_parts owing other e is (inl (inl s)) = is ∙ ap (λ o. history_after before run (within_room before run o)) s
  leaves_by_parts owing other e is (inl (inr s)) = is ∙ ap (λ o. history_after before run (within_room before run o)) s
  leaves_by_parts owing other e is (inr (inl s)) = is ∙ ap (λ o. history_after before run (within_room before run o)) s
  leaves_by_parts owing other e is (inr (inr (told, effects, s, not, refused))) =
      absurd (not (told_in_room worked.Done told effects (lacks_room before (entry_of run told effects)) (e ∙ ap (λ o. reply_of (within_room before run o)) s)))

  -- where all groups had run, all is as before
  pub done_leaves : MeetsOrLacks run before after (Ok (outcome.Worked worked.Done)) → after ≡ before
  done_leaves (inl h) = leaves_by_parts _ _ h.reply_is h.history_is (parts_of (beginning before) before.entries queue id)
  done_leaves (inr h) = let e = h.reply_is in absurd cc
