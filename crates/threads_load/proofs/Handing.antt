-- What is handed out in a section.
use Rattle.std.proofs.Common.{◌≡◌, ℕ, zero, suc, ◌<◌, ◌∙◌, ap, refl, List, [], ◌∷◌, ◌++◌, length, map, sym, subst, inr, arith}
use Rattle.std.specs.Prelude.{All, MatchOption, Option, None, Some, Result, Ok, Err, IfErr, IfOk, option_to_list, slice_index_or}
use Rattle.std.proofs.lemmas.List.{append-nil}
use Rattle.std.proofs.lemmas.List.Elements.{All-push}
use Rattle.aql_packet.specs.declared.ids.QueueId.{QueueId}
use Rattle.kernel_check.specs.Programs.{Program}
use Rattle.core_model.specs.History.{History, Part}
use Rattle.core_model.specs.Legal.{IsLegalPart}
use Rattle.core_model.specs.Rotation.{Rotates, entries_in}
use Rattle.core_model.specs.declared.entry.Entry.{Entry}
use Rattle.core_model.specs.declared.refusal.Refusal.{Refusal}
use Rattle.core_model.specs.declared.refusal.Refusal.TheVariants as refusal
use Rattle.core_model.proofs.States.{rotated-start}
use Rattle.access_core.specs.Cores.{Core}
use Rattle.client_threads.specs.HandedOver.{handed_over}
use Rattle.client_threads.specs.Boards.{FrontSeen}
use Rattle.client_threads.specs.Lanes.{LaneSeen}
use Rattle.client_threads.proofs.HandingOver.{entries_append}
use Rattle.client_threads.specs.Sections.{Follows, IsSection, last_of}
use Rattle.client_threads.proofs.Runs.{same_kernels}
use Rattle.client_threads.proofs.Sections.{follows_self}
use Rattle.threads_load.specs.Counts.{AreCounts}
use Rattle.threads_load.specs.declared.counting.PacketCounts.{PacketCounts}
use Rattle.threads_load.specs.Stages.{AreOf}

stays : (old new : History) → new ≡ old → Follows old new
stays old new same = subst (Follows old) (sym same) (follows_self old)

-- a core that was rotated goes on
pub rotation_follows : (old new : History) (result : Result Part Refusal) → Rotates old result new → Follows old new
rotation_follows old new (Ok part) h = record { kernels = h.1.kernels_are; capacity = h.1.capacity_is; declared = h.1.declared.1; goes = inr (rotated-start old new part h.1) }
rotation_follows old new (Err refusal.OutOfMemory) h = stays old new h.1
rotation_follows old new (Err refusal.AuditFull) h = stays old new h.1
rotation_follows old new (Err _) h = absurd h

legal_by : (kernels own : List Program) (result : Result Part Refusal) → own ≡ kernels → IfOk result (λ part. IsLegalPart own part) → IfOk result (IsLegalPart kernels)
legal_by kernels own (Ok part) same legal = subst (λ (ks : List Program). IsLegalPart ks part) same legal
legal_by kernels own (Err why) same legal = tt

-- a part that is handed out in a section is legal for the kernels of the core that was opened
pub handed_legal : (opened : Core) (seen new : FrontSeen) (result : Result Part Refusal)
    → IsSection opened seen new (λ before after. Rotates before.history result after.history × IfOk result (λ part. IsLegalPart before.history.kernels part)) → IfOk result (IsLegalPart opened.history.kernels)
handed_legal opened seen new result s = legal_by opened.history.kernels (last_of opened s.before).history.kernels result (same_kernels opened s.before s.all) s.did.1

-- no part was handed out yet
pub none_legal : (kernels : List Program) → All (IsLegalPart kernels) []
none_legal kernels = λ k d lt. absurd (omega (arith, lt))

-- ---- parts that are settled as they come

-- all parts that were handed out, where none is left, are those that were settled
pub none_left : (settled : List Part) → settled ++ option_to_list None ≡ settled
none_left settled = append-nil settled

pub left_listed : (left : Option Part) (parts : List Part) → MatchOption left (parts ≡ []) (λ part. parts ≡ part ∷ []) → parts ≡ option_to_list left
left_listed None parts is = is
left_listed (Some part) parts is = is

-- what is true of these is true of those that were settled, and the other way round
pub with_none : (P : List Part → Type 0) (settled : List Part) → P settled → P (settled ++ option_to_list None)
with_none P settled h = subst P (sym (none_left settled)) h

pub none_was : {E : Type 0} (P : List Part → Type 0) (settled : List Part) (handed_out : Result (Option Part) E) → handed_out ≡ Ok None → IfOk handed_out (λ left. P (settled ++ option_to_list left)) → P settled
none_was P settled handed_out is h = subst P (none_left settled) (subst (λ (r : Result (Option Part) _). IfOk r (λ left. P (settled ++ option_to_list left))) is h)

-- what is true of all parts of a run, whether it went well or not
pub all_handed : {X E F : Type 0} (P : List Part → Type 0) (settled own : List Part) (handed_out : Result (Option Part) E) (left : Option Part) (run : Result X F)
    → own ≡ settled → IfOk run (λ _. handed_out ≡ Ok left) → IfErr run (λ _. left ≡ None) → P settled → IfOk handed_out (λ l. P (settled ++ option_to_list l)) → P (own ++ option_to_list left)
all_handed P settled own handed_out left (Ok x) same ok err none h =
    subst (λ (ps : List Part). P (ps ++ option_to_list left)) (sym same) (subst (λ (r : Result (Option Part) _). IfOk r (λ l. P (settled ++ option_to_list l))) ok h)
all_handed P settled own handed_out left (Err e) same ok err none h =
    subst (λ (l : Option Part). P (own ++ option_to_list l)) (sym err) (with_none P own (subst P (sym same) none))

-- or where it did
pub told_handed : {X E F : Type 0} (P : List Part → Type 0) (settled own : List Part) (handed_out : Result (Option Part) E) (left : Option Part) (run : Result X F)
    → own ≡ settled → IfOk run (λ _. handed_out ≡ Ok left) → IfOk handed_out (λ l. P (settled ++ option_to_list l)) → IfOk run (λ _. P (own ++ option_to_list left))
told_handed P settled own handed_out left (Ok x) same ok h =
    subst (λ (ps : List Part). P (ps ++ option_to_list left)) (sym same) (subst (λ (r : Result (Option Part) _). IfOk r (λ l. P (settled ++ option_to_list l))) ok h)
told_handed P settled own handed_out left (Err e) same ok h = tt

all_first : {X : Type 0} (P : X → Type 0) (xs ys : List X) → All P (xs ++ ys) → All P xs
all_first P [] ys all k d lt = absurd (omega (arith, lt))
all_first P (x ∷ xs) ys all zero d lt = all zero d (omega arith)
all_first P (x ∷ xs) ys all (suc k) d lt = all_first P xs ys (λ n d lt. all (suc n) d (omega (arith, lt))) k d (omega (arith, lt))

-- with the next part, settled or left, all are legal
pub all_legal : (kernels : List Program) (old new : List Part) (left : Option Part) (part : Part) → new ++ option_to_list left ≡ old ++ part ∷ [] → All (IsLegalPart kernels) old → IsLegalPart kernels part
    → All (IsLegalPart kernels) (new ++ option_to_list left)
all_legal kernels old new left part is all legal = subst (λ (ps : List Part). All (IsLegalPart kernels) ps) (sym is) (All-push (IsLegalPart kernels) old part all legal)

-- so are those that were settled
pub settled_legal : (kernels : List Program) (old new : List Part) (left : Option Part) (part : Part) → new ++ option_to_list left ≡ old ++ part ∷ [] → All (IsLegalPart kernels) old → IsLegalPart kernels part
    → All (IsLegalPart kernels) new
settled_legal kernels old new left part is all legal = all_first (IsLegalPart kernels) new (option_to_list left) (all_legal kernels old new left part is all legal)

-- and what they tell is what was told, and what the part tells
told_with : (old new : List Part) (left : Option Part) (part : Part) → new ++ option_to_list left ≡ old ++ part ∷ [] → entries_in (new ++ option_to_list left) ≡ entries_in old ++ part.entries
told_with old new left part is = ap entries_in is ∙ entries_append old (part ∷ []) ∙ ap (λ (es : List Entry). entries_in old ++ es) (append-nil part.entries)

pub counted_with : (queues : ℕ) (old new : List Part) (left : Option Part) (part : Part) (counts : List PacketCounts) → new ++ option_to_list left ≡ old ++ part ∷ []
    → AreCounts (entries_in old ++ part.entries) queues counts → AreCounts (entries_in (new ++ option_to_list left)) queues counts
counted_with queues old new left part counts is are = subst (λ (es : List Entry). AreCounts es queues counts) (sym (told_with old new left part is)) are

-- lanes that handed over what they kept are those of their queues
same_queue : (lanes : List LaneSeen) (place : ℕ) (d : LaneSeen) → place < length lanes → (slice_index_or (map handed_over lanes) place d).queue ≡ (slice_index_or lanes place d).queue
same_queue [] place d lt = absurd (omega (arith, lt))
same_queue (lane ∷ lanes) zero d lt = refl
same_queue (lane ∷ lanes) (suc place) d lt = same_queue lanes place d (omega (arith, lt))

as_many : (lanes : List LaneSeen) → length (map handed_over lanes) ≡ length lanes
as_many [] = refl
as_many (lane ∷ lanes) = ap suc (as_many lanes)

pub handed_of : (queues : ℕ) (lanes new : List LaneSeen) → new ≡ map handed_over lanes → AreOf queues lanes → AreOf queues new
handed_of queues lanes new is are = subst (λ (ls : List LaneSeen). AreOf queues ls) (sym is) (record {
  count = as_many lanes ∙ are.count;
  numbers = λ place d lt.
      let low : place < length lanes = omega (arith, lt, as_many lanes) in
      ap (λ (q : QueueId). q.0) (same_queue lanes place d low) ∙ are.numbers place d low;
})
