-- What a list of requests does goes on from where the audit began: the entries that are handed out, those of the audit, and the parts.
use Rattle.std.proofs.Common.{◌≡◌, List, [], ◌∷◌, ◌++◌, append_assoc, refl, sym, ◌∙◌, ap, subst, Option, Some, None, Result, Ok, Err, inl, inr}
use Rattle.std.specs.List.{cons_option}
use Rattle.kernel_check.specs.Programs.{Program}
use Rattle.policy.specs.Policy.{Declared}
use Rattle.core_model.specs.declared.entry.Entry.{Entry}
use Rattle.core_model.specs.declared.event.Event.{Event}
use Rattle.core_model.specs.declared.event.Event.TheVariants as event
use Rattle.core_model.specs.declared.refusal.Refusal as cores
use Rattle.core_model.specs.declared.origin.Origin.{Origin}
use Rattle.core_model.specs.History.{History, Start, beginning, opening_state}
use Rattle.core_model.specs.History.{Part as Handed}
use Rattle.core_model.specs.Legal.{IsLegal, IsWhole, SameOrigin, due}
use Rattle.core_model.specs.Rotation.{GoOn, Rotates, entries_in}
use Rattle.core_model.proofs.States.{part-legal, whole-legal}
use Rattle.ring_core.specs.Machine.{judged_size}
use Rattle.world.specs.declared.request.Request.{Request}
use Rattle.world.specs.declared.request.Request.TheVariants as request
use Rattle.world.specs.Dues.{AreReplies, Due, IsServed, Meets, Reply, handed_out, part_of, parts_out, rotated_reply}
use Rattle.world.specs.InStep.{IsJoinedBehind}
use Rattle.world.specs.States.{Joined, ring_of}
use Rattle.world.proofs.Kept.{BeginsAlike, IsUnparted, replies_kept, unparted_at_step, unparted_at_take, unparted_call, unparted_event, unparted_opening, unparted_query, unrotated}

-- ---- the same to begin from

same-self : (o : Origin) → SameOrigin o o
same-self o = record { policy = refl; granted = λ client on right. refl; held = λ queue id client on right. refl; memory = refl; signals = refl; opened = refl; queues = refl; packets = refl; before = refl }

same-along : (a b c : Origin) → SameOrigin a b → SameOrigin b c → SameOrigin a c
same-along a b c one two = record {
  policy = one.policy ∙ two.policy;
  granted = λ client on right. one.granted client on right ∙ two.granted client on right;
  held = λ queue id client on right. one.held queue id client on right ∙ two.held queue id client on right;
  memory = one.memory ∙ two.memory;
  signals = one.signals ∙ two.signals;
  opened = one.opened ∙ two.opened;
  queues = one.queues ∙ two.queues;
  packets = one.packets ∙ two.packets;
  before = one.before ∙ two.before;
}

-- what goes on from somewhere goes on from all that is the same to begin from
go-on-from : (here end : Origin) (parts : List Handed) (origin : Origin) → SameOrigin here end → GoOn here parts origin → GoOn end parts origin
go-on-from here end [] origin same on = same-along origin here end on same
go-on-from here end (part ∷ parts) origin same on = (same-along part.start here end on.0 same, on.1)

-- ---- one request

-- a reply hands out no part, and the history begins where it began; or it hands out one, from where the history began on, and it begins in
-- what that one ends in
pub data HandsOn (old : Joined) (reply : Reply) (new : Joined) : Type 0 where
  stays : part_of reply ≡ None → BeginsAlike new.core old.core → HandsOn old reply new
  parts : (part : Handed) → part_of reply ≡ Some part → part.start ≡ old.core.origin → SameOrigin new.core.origin part.end → new.core.kernels ≡ old.core.kernels → HandsOn old reply new

same-begins : (new old : Joined) → new ≡ old → BeginsAlike new.core old.core
same-begins new old same = record { origin_is = ap (λ (world : Joined). world.core.origin) same; kernels_are = ap (λ (world : Joined). world.core.kernels) same }

by-due : (old new : Joined) (owed : Due) (reply : Reply) → IsUnparted old owed → Meets old owed reply new → HandsOn old reply new
by-due old new owed reply unparted (inl served) =
    stays (ap part_of served.0 ∙ unparted.no_part) (subst (λ (world : Joined). BeginsAlike world.core old.core) (sym served.1) unparted.begins)
by-due old new owed reply unparted (inr lacked) = stays (ap part_of lacked.1) (same-begins new old lacked.2)

by-rotation : (old new : Joined) (reply : Reply) (made : Result Handed cores.Refusal) → reply ≡ rotated_reply made → Rotates old.core made new.core → HandsOn old reply new
by-rotation old new reply (Ok part) told is = parts part (ap part_of told) is.1.start_is is.1.goes_on is.1.kernels_are
by-rotation old new reply (Err why) told is =
    let same = unrotated old.core new.core why is in
    stays (ap part_of told) (record { origin_is = ap (λ (history : History). history.origin) same; kernels_are = ap (λ (history : History). history.kernels) same })

hands-on : (old new : Joined) (asked : Request) (reply : Reply) → IsServed old asked reply new → HandsOn old reply new
hands-on old new (request.Step queue step) reply is = by-due old new _ reply (unparted_at_step old queue step (ring_of old queue)) is
hands-on old new (request.Take queue) reply is = by-due old new _ reply (unparted_at_take old queue (ring_of old queue)) is
hands-on old new (request.OpenQueue client agent size producers) reply is =
    let opening : Event = event.Open client agent (judged_size size producers) in
    by-due old new _ reply (unparted_opening old size producers opening (due old.core opening)) is
hands-on old new (request.Call asked) reply is = by-due old new _ reply (unparted_call old asked (due old.core (event.Call asked))) is
hands-on old new (request.Query asked) reply is = by-due old new _ reply (unparted_query old asked) is
hands-on old new (request.Reload policy) reply (inl is) = by-due old new _ reply (unparted_event old (event.Reload policy.rows) (due old.core (event.Reload policy.rows))) is.1
hands-on old new (request.Reload policy) reply (inr others) = stays (ap part_of others.1) (same-begins new old others.2)
hands-on old new request.Rotate reply is = by-rotation old new reply is.0 is.1 is.2

-- ---- any list of requests

more-parts : (old mid new : Joined) (reply : Reply) (replies : List Reply) → HandsOn old reply mid → GoOn mid.core.origin (parts_out replies) new.core.origin → GoOn old.core.origin (parts_out (reply ∷ replies)) new.core.origin
more-parts old mid new reply replies (stays none same) on =
    subst (λ (o : Option Handed). GoOn old.core.origin (cons_option o (parts_out replies)) new.core.origin) (sym none)
    (subst (λ (origin : Origin). GoOn origin (parts_out replies) new.core.origin) same.origin_is on)
more-parts old mid new reply replies (parts part some starts ends kernels) on =
    subst (λ (o : Option Handed). GoOn old.core.origin (cons_option o (parts_out replies)) new.core.origin) (sym some)
    (subst (λ (origin : Origin). SameOrigin origin old.core.origin) (sym starts) (same-self old.core.origin), go-on-from mid.core.origin part.end (parts_out replies) new.core.origin ends on)

-- the parts that are handed out go on from where the history began to where it begins
pub parts-go_on : (old new : Joined) (requests : List Request) (replies : List Reply) → AreReplies old requests replies new → GoOn old.core.origin (parts_out replies) new.core.origin
parts-go_on old new [] [] are = subst (λ (world : Joined). SameOrigin world.core.origin old.core.origin) (sym are) (same-self old.core.origin)
parts-go_on old new (asked ∷ requests) (reply ∷ replies) are =
    more-parts old are.0 new reply replies (hands-on old are.0 asked reply are.1) (parts-go_on are.0 new requests replies are.2)
parts-go_on old new [] (reply ∷ replies) are = absurd are
parts-go_on old new (asked ∷ requests) [] are = absurd are

-- their entries are those that are handed out
pub entries-of-parts : (replies : List Reply) → entries_in (parts_out replies) ≡ handed_out replies
entries-of-parts [] = refl
entries-of-parts (reply ∷ replies) = by-part (part_of reply) (entries-of-parts replies)
  where
    by-part : (o : Option Handed) → entries_in (parts_out replies) ≡ handed_out replies →
        entries_in (cons_option o (parts_out replies)) ≡ elim o [ None ↦ [] | Some part ↦ part.entries ] ++ handed_out replies
    by-part None rest = rest
    by-part (Some part) rest = ap (λ (es : List Entry). part.entries ++ es) rest

kernels-on : (old mid : Joined) (reply : Reply) → HandsOn old reply mid → mid.core.kernels ≡ old.core.kernels
kernels-on old mid reply (stays none same) = same.kernels_are
kernels-on old mid reply (parts part some starts ends kernels) = kernels

pub kernels-stay : (old new : Joined) (requests : List Request) (replies : List Reply) → AreReplies old requests replies new → new.core.kernels ≡ old.core.kernels
kernels-stay old new [] [] are = ap (λ (world : Joined). world.core.kernels) are
kernels-stay old new (asked ∷ requests) (reply ∷ replies) are =
    kernels-stay are.0 new requests replies are.2 ∙ kernels-on old are.0 reply (hands-on old are.0 asked reply are.1)
kernels-stay old new [] (reply ∷ replies) are = absurd are
kernels-stay old new (asked ∷ requests) [] are = absurd are

-- with the audit at the end they are a legal history, from where the audit began
pub run-legal : (first : Declared) (prior : List Entry) (old new : Joined) (requests : List Request) (replies : List Reply) → IsJoinedBehind first prior old → AreReplies old requests replies new
    → IsLegal (beginning old.core) (handed_out replies ++ new.core.entries)
run-legal first prior old new requests replies h are =
    let same = kernels-stay old new requests replies are in
    let later = replies_kept first prior old new requests replies h are in
    let all : (prior ++ handed_out replies) ++ new.core.entries ≡ prior ++ (handed_out replies ++ new.core.entries) = append_assoc prior (handed_out replies) new.core.entries in
    let opening : Start = opening_state first old.core.kernels in
    let legal : IsLegal opening (prior ++ (handed_out replies ++ new.core.entries)) =
    subst (IsLegal opening) all (whole-legal opening ((prior ++ handed_out replies) ++ new.core.entries) (subst (λ (kernels : List Program). IsWhole (opening_state first kernels) ((prior ++ handed_out replies) ++ new.core.entries)) same later.whole)) in
    subst (λ (s : Start). IsLegal s (handed_out replies ++ new.core.entries)) (sym h.start_is) (part-legal opening prior (handed_out replies ++ new.core.entries) legal)
