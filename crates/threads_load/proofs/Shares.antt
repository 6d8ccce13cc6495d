-- Who has which share of the right to make sections.
use Rattle.std.proofs.Common.{◌≡◌, ◌≢◌, ◌+◌, ◌<◌, ◌≤◌, true, false, List, [], ◌∷◌, ◌++◌, length, map, refl, ap, suc, ◌∙◌, sym, subst, arith, length-append, inl, inr, eq-eqb}
use Rattle.std.specs.Prelude.{Result, Ok, Err, IfErr}
use Rattle.std.specs.List.{sum_by}
use Rattle.std.proofs.lemmas.List.Sums.{sum_by-cons, sum_by_push}
use mathlib.Core.List.{IsPrefix}
use Rattle.aql_packet.specs.declared.ids.QueueId.{QueueId}
use Rattle.core_model.specs.History.{History, Part}
use Rattle.core_model.specs.Limits.{most_queues}
use Rattle.core_model.specs.declared.event.Event.{Event}
use Rattle.core_model.specs.declared.outcome.Outcome.{Outcome}
use Rattle.core_model.specs.declared.outcome.Outcome.TheVariants as outcome
use Rattle.core_model.specs.declared.refusal.Refusal.{Refusal}
use Rattle.access_core.specs.Cores.{Core}
use Rattle.client_threads.specs.declared.client_end.ClientEnd.{ClientEnd}
use Rattle.client_threads.specs.declared.settling.SettleAllFault.{SettleAllFault}
use Rattle.client_threads.specs.declared.settling.SettleAllFault.TheVariants as fault
use Rattle.client_threads.specs.Boards.{FrontSeen, all_shares}
use Rattle.client_threads.specs.HandedOver.{handed_over}
use Rattle.client_threads.specs.Lanes.{LaneSeen, share_of}
use Rattle.client_threads.specs.Opening.{OpensQueue, before_lane}
use Rattle.client_threads.specs.Rings.{QueueRing}
use Rattle.client_threads.specs.Sections.{IsSection}
use Rattle.client_threads.specs.Settling.{IsCauseOf, IsUnsettledFor, have_all_shares}
use Rattle.threads_load.specs.Stages.{HaveShares, KeepShares}
use Rattle.threads_load.proofs.Planned.{section_begins}

-- ---- sections

pub section_share : {Did : Core → Core → Type 0} (opened : Core) (seen new : FrontSeen) → IsSection opened seen new Did → new.share ≡ seen.share
section_share opened seen new s = ap (λ (f : FrontSeen). f.share) s.new_is

pub still_shares : (front new : FrontSeen) (lanes : List LaneSeen) → new.share ≡ front.share → HaveShares front lanes → HaveShares new lanes
still_shares front new lanes same h = record { few = h.few; each = h.each; all = omega (arith, same, h.all) }

-- ---- lanes

pub kept_shares : (front : FrontSeen) (old new : List LaneSeen) → KeepShares old new → HaveShares front old → HaveShares front new
kept_shares front old new k h = record { few = omega (arith, k.count, h.few); each = omega (arith, k.shares, k.count, h.each); all = omega (arith, k.count, h.all) }

pub keep_none : (lanes : List LaneSeen) → KeepShares lanes lanes
keep_none lanes = record { count = refl; shares = refl }

pub keep_both : (one two three : List LaneSeen) → KeepShares one two → KeepShares two three → KeepShares one three
keep_both one two three a b = record { count = b.count ∙ a.count; shares = b.shares ∙ a.shares }

pub ran_keep : (old new : List LaneSeen) → length new ≡ length old → sum_by share_of new ≡ sum_by share_of old → KeepShares old new
ran_keep old new count shares = record { count = count; shares = shares }

handed_shares : (lanes : List LaneSeen) → sum_by share_of (map handed_over lanes) ≡ sum_by share_of lanes
handed_shares [] = refl
handed_shares (l ∷ ls) = omega (arith, sum_by-cons share_of l ls, sum_by-cons share_of (handed_over l) (map handed_over ls), handed_shares ls)

handed_count : (lanes : List LaneSeen) → length (map handed_over lanes) ≡ length lanes
handed_count [] = refl
handed_count (l ∷ ls) = ap suc (handed_count ls)

pub handed_keep : (old new : List LaneSeen) → new ≡ map handed_over old → KeepShares old new
handed_keep old new is = record { count = ap length is ∙ handed_count old; shares = ap (sum_by share_of) is ∙ handed_shares old }

pub same_keep : (old new : List LaneSeen) → new ≡ old → KeepShares old new
same_keep old new is = record { count = ap length is; shares = ap (sum_by share_of) is }

-- ---- an opening

pub first_shares : (front : FrontSeen) → front.share ≡ all_shares → (none : List LaneSeen) → none ≡ [] → HaveShares front none
first_shares front all none is = subst (HaveShares front) (sym is) (record { few = omega arith; each = refl; all = omega (arith, all) })

pub some_share : (front : FrontSeen) (lanes : List LaneSeen) → HaveShares front lanes → 1 < front.share
some_share front lanes h = omega (arith, h.few, h.all)

one_of_few : (event : Event) (before after : History) (queue : QueueId) → OpensQueue event before (Ok (outcome.Opened queue)) after → queue.0 ≤ most_queues
one_of_few event before after queue (inl h) = h.1
one_of_few event before after queue (inr h) = absurd (let same : Ok (outcome.Opened queue) ≡ Err _ = h.reply_is in cc)

-- a lane more, with one share of the front's
pub lane_shares : (front new : FrontSeen) (lanes more : List LaneSeen) (lane : LaneSeen) (event : Event) (before after : History) (queue : QueueId)
    → new.share + 1 ≡ front.share → lane.front.share ≡ 1 → more ≡ lanes ++ lane ∷ [] → OpensQueue event before (Ok (outcome.Opened queue)) after → queue.0 ≡ length lanes + 1 → HaveShares front lanes → HaveShares new more
lane_shares front new lanes more lane event before after queue share one is opens number h =
    let longer : length (lanes ++ lane ∷ []) ≡ length lanes + 1 = length-append lanes (lane ∷ []) in
    let few : queue.0 ≤ most_queues = one_of_few event before after queue opens in
    subst (HaveShares new) (sym is) (record {
      few = omega (arith, longer, few, number);
      each = omega (arith, longer, sum_by_push share_of lanes lane, one, h.each);
      all = omega (arith, longer, share, h.all);
    })

pub opened_begins : {X : Type 0} {Did : Core → Core → Type 0} (opened : Core) (seen new : FrontSeen) (result : Result X Refusal) → IsSection opened seen (before_lane result new) Did → IsPrefix seen.left new.left
opened_begins opened seen new (Ok x) s = section_begins opened seen (record new { share = new.share + 1 }) s
opened_begins opened seen new (Err e) s = section_begins opened seen new s

-- an opening gives a lane one share at the most
pub one_at_most : {X : Type 0} {Did : Core → Core → Type 0} (opened : Core) (seen new : FrontSeen) (result : Result X Refusal) → IsSection opened seen (before_lane result new) Did → seen.share ≤ new.share + 1
one_at_most opened seen new (Ok x) s = omega (arith, ap (λ (f : FrontSeen). f.share) s.new_is)
one_at_most opened seen new (Err e) s = omega (arith, ap (λ (f : FrontSeen). f.share) s.new_is)

-- ---- the end

pub all_there : (front : FrontSeen) (lanes : List LaneSeen) → HaveShares front lanes → have_all_shares front lanes ≡ true
all_there front lanes h = eq-eqb (front.share + sum_by share_of lanes) all_shares (omega (arith, h.each, h.all))

not_missing : (front : FrontSeen) (rings : List QueueRing) (parts : List Part) (ends : List ClientEnd) (lanes : List LaneSeen) (core : Core) (why : SettleAllFault) → HaveShares front lanes
    → IsCauseOf front rings parts ends lanes core why → why ≢ fault.MissingFront
not_missing front rings parts ends lanes core why h cause is =
    let missing : have_all_shares front lanes ≡ false = subst (IsCauseOf front rings parts ends lanes core) is cause in
    let there : have_all_shares front lanes ≡ true = all_there front lanes h in
    absurd (let no : true ≡ false = sym there ∙ missing in cc)

pub never_missing : {X Y : Type 0} (fault_in : Y → SettleAllFault) (core_in : Y → Core) (result : Result X Y) (opened : Core) (front : FrontSeen) (rings : List QueueRing) (parts : List Part) (ends : List ClientEnd) (lanes : List LaneSeen)
    → HaveShares front lanes → IfErr result (λ u. IsUnsettledFor opened front rings parts ends lanes (core_in u) (fault_in u)) → IfErr result (λ u. fault_in u ≢ fault.MissingFront)
never_missing fault_in core_in (Ok x) opened front rings parts ends lanes h why = tt
never_missing fault_in core_in (Err u) opened front rings parts ends lanes h why = not_missing front rings parts ends lanes (core_in u) (fault_in u) h why.1
