-- Counts of queues, by more and more entries.
use Rattle.std.proofs.Common.{◌≡◌, ℕ, zero, suc, ◌+◌, ◌<◌, ◌≤◌, ◌==◌, ◌&&◌, List, [], ◌∷◌, ◌++◌, Bool, true, false, length, length-append, slice_index_or, slice_set, refl, sym, ap, ◌∙◌, subst, arith}
use Rattle.std.specs.Prelude.{nat_eq, nat_lt, Result, Ok, Err, IfOk}
use Rattle.std.specs.List.{list_all, range_with_len}
use Rattle.std.proofs.lemmas.Bool.Decides.{nat_tests}
use Rattle.core_model.specs.History.{Start}
use Rattle.core_model.specs.declared.entry.Entry.{Entry}
use Rattle.threads_load.specs.declared.counting.PacketCounts.{PacketCounts}
use Rattle.threads_load.specs.declared.plan.PlannedQueue.{PlannedQueue}
use Rattle.threads_load.specs.Counts.{AreCounts, are_finished, counts_at, is_finished, packet_counts}
use Rattle.threads_load.specs.Reports.{text_of_counts, text_of_lines, text_of_names, text_of_queues}

-- ---- no entry

pub no_counts : (counts : List PacketCounts) → counts ≡ [] → AreCounts [] 0 counts
no_counts counts none = subst (λ (cs : List PacketCounts). AreCounts [] 0 cs) (sym none) (record { count = refl; each = λ place d lt. absurd (omega (arith, lt)) })

-- the last of these, or one of those before it
last_or_before : {X : Type 0} (P : X → Type 0) (xs : List X) (x : X) → ((place : ℕ) (d : X) → place < length xs → P (slice_index_or xs place d)) → P x
    → (place : ℕ) (d : X) → place < length (xs ++ x ∷ []) → P (slice_index_or (xs ++ x ∷ []) place d)
last_or_before P [] x each is zero d lt = is
last_or_before P [] x each is (suc place) d lt = absurd (omega (arith, lt))
last_or_before P (y ∷ xs) x each is zero d lt = each zero d (omega arith)
last_or_before P (y ∷ xs) x each is (suc place) d lt = last_or_before P xs x (λ p d lt. each (suc p) d (omega (arith, lt))) is place d (omega (arith, lt))

pub one_more : (queues : ℕ) (counts more : List PacketCounts) → AreCounts [] queues counts → more ≡ counts ++ packet_counts [] 0 ∷ [] → AreCounts [] (queues + 1) more
one_more queues counts more are is = subst (λ (cs : List PacketCounts). AreCounts [] (queues + 1) cs) (sym is) (record {
  count = length-append counts (packet_counts [] 0 ∷ []) ∙ ap (λ n. n + 1) are.count;
  each = last_or_before (λ (one : PacketCounts). one ≡ packet_counts [] 0) counts (packet_counts [] 0) are.each refl;
})

-- ---- more entries

pub length_set : {X : Type 0} (xs : List X) (k : ℕ) (x : X) → length (slice_set xs k x) ≡ length xs
length_set [] k x = refl
length_set (y ∷ xs) zero x = refl
length_set (y ∷ xs) (suc k) x = ap suc (length_set xs k x)

set_here : {X : Type 0} (xs : List X) (k : ℕ) (x d : X) → k < length xs → slice_index_or (slice_set xs k x) k d ≡ x
set_here [] k x d lt = absurd (omega (arith, lt))
set_here (y ∷ xs) zero x d lt = refl
set_here (y ∷ xs) (suc k) x d lt = set_here xs k x d (omega (arith, lt))

set_before : {X : Type 0} (xs : List X) (k p : ℕ) (x d : X) → p < k → slice_index_or (slice_set xs k x) p d ≡ slice_index_or xs p d
set_before [] k p x d lt = refl
set_before (y ∷ xs) zero p x d lt = absurd (omega (arith, lt))
set_before (y ∷ xs) (suc k) zero x d lt = refl
set_before (y ∷ xs) (suc k) (suc p) x d lt = set_before xs k p x d (omega (arith, lt))

set_behind : {X : Type 0} (xs : List X) (k p : ℕ) (x d : X) → k < p → slice_index_or (slice_set xs k x) p d ≡ slice_index_or xs p d
set_behind [] k p x d lt = refl
set_behind (y ∷ xs) zero zero x d lt = absurd (omega (arith, lt))
set_behind (y ∷ xs) zero (suc p) x d lt = refl
set_behind (y ∷ xs) (suc k) zero x d lt = absurd (omega (arith, lt))
set_behind (y ∷ xs) (suc k) (suc p) x d lt = set_behind xs k p x d (omega (arith, lt))

-- the queues before a place are counted in these entries too, and those from there on not yet
pub record AreHalf (old new : List Entry) (queues place : ℕ) (counts : List PacketCounts) : Type 0 where
  pub count : length counts ≡ queues
  pub done : (p : ℕ) (d : PacketCounts) → p < place → p < length counts → slice_index_or counts p d ≡ packet_counts new (p + 1)
  pub left : (p : ℕ) (d : PacketCounts) → place ≤ p → p < length counts → slice_index_or counts p d ≡ packet_counts old (p + 1)

pub half_none : (old new : List Entry) (queues : ℕ) (counts : List PacketCounts) → AreCounts old queues counts → AreHalf old new queues 0 counts
half_none old new queues counts are = record { count = are.count; done = λ p d low lt. absurd (omega (arith, low)); left = λ p d low lt. are.each p d lt }

pub half_all : (old new : List Entry) (queues place : ℕ) (counts : List PacketCounts) → length counts ≤ place → AreHalf old new queues place counts → AreCounts new queues counts
half_all old new queues place counts past h = record { count = h.count; each = λ p d lt. h.done p d (omega (arith, lt, past)) lt }

pub half_one : (old new : List Entry) (queues place : ℕ) (counts : List PacketCounts) (one : PacketCounts) → place < length counts → AreHalf old new queues place counts → one ≡ packet_counts new (place + 1)
    → AreHalf old new queues (place + 1) (slice_set counts place one)
half_one old new queues place counts one within h is = record {
  count = length_set counts place one ∙ h.count;
  done = λ p d low lt. by_order p d low (nat_lt p place) refl;
  left = λ p d low lt.
      let own : p < length counts = omega (arith, lt, length_set counts place one) in
      set_behind counts place p one d (omega (arith, low)) ∙ h.left p d (omega (arith, low)) own;
}
  where
    by_order : (p : ℕ) (d : PacketCounts) → p < place + 1 → (t : Bool) → nat_lt p place ≡ t → slice_index_or (slice_set counts place one) p d ≡ packet_counts new (p + 1)
    by_order p d low true below =
        let under : p < place = grind (arith, nat_tests) in
        set_before counts place p one d under ∙ h.done p d under (omega (arith, under, within))
    by_order p d low false not_below =
        let at : place ≡ p = grind (arith, nat_tests) in
        subst (λ n. slice_index_or (slice_set counts place one) n d ≡ packet_counts new (n + 1)) at (set_here counts place one d within ∙ is)

-- ---- what is told of them

at_index : (counts : List PacketCounts) (k : ℕ) (d : PacketCounts) → k < length counts → counts_at counts k ≡ slice_index_or counts k d
at_index [] k d lt = absurd (omega (arith, lt))
at_index (one ∷ counts) zero d lt = refl
at_index (one ∷ counts) (suc k) d lt = at_index counts k d (omega (arith, lt))

module _ (start : Start) (entries : List Entry) (counts : List PacketCounts) where
  lines_from : (n m : ℕ) (plan : List PlannedQueue) → m ≡ n + 1 → ((k j : ℕ) → j ≡ k + 1 → n ≤ k → k < n + length plan → counts_at counts k ≡ packet_counts entries j)
      → text_of_lines start.policy counts n plan ≡ text_of_queues start entries m plan
  lines_from n m [] e h = refl
  lines_from n m (planned ∷ plan) e h =
      let one = h n m e (omega arith) (omega arith) in
      let rest = lines_from (n + 1) (m + 1) plan (omega (arith, e)) (λ k j is low lt. h k j is (omega (arith, low)) (omega (arith, lt))) in
      let same : n + 1 ≡ m = sym e in
      λ i. (text_of_names start.policy (same i) planned ++ text_of_counts (one i)) ++ rest i

  pub lines_are : (plan : List PlannedQueue) → AreCounts entries (length plan) counts → text_of_lines start.policy counts 0 plan ≡ text_of_queues start entries 1 plan
  lines_are plan are = lines_from 0 1 plan refl (λ k j is low lt.
      let within : k < length counts = omega (arith, lt, are.count) in
      at_index counts k (packet_counts [] 0) within ∙ are.each k (packet_counts [] 0) within ∙ ap (packet_counts entries) (sym is))

module _ (entries : List Entry) (wanted : ℕ) where
  all_from : (a : ℕ) (counts : List PacketCounts) → ((place k : ℕ) (d : PacketCounts) → place < length counts → k ≡ a + place → slice_index_or counts place d ≡ packet_counts entries k)
      → list_all (λ (one : PacketCounts). one.finished == wanted) counts ≡ list_all (is_finished entries wanted) (range_with_len a (length counts))
  all_from a [] h = refl
  all_from a (one ∷ counts) h =
      let first : one ≡ packet_counts entries a = h zero a one (omega arith) (omega arith) in
      let rest = all_from (a + 1) counts (λ place k d lt is. h (suc place) k d (omega (arith, lt)) (omega (arith, is))) in
      λ i. ((first i).finished == wanted) && rest i

  pub finished_by : (queues : ℕ) (counts : List PacketCounts) (result : Bool) → result ≡ list_all (λ (one : PacketCounts). one.finished == wanted) counts → AreCounts entries queues counts → result ≡ are_finished entries wanted queues
  finished_by queues counts result is are =
      is ∙ all_from 1 counts (λ place k d lt e. are.each place d lt ∙ ap (packet_counts entries) (omega (arith, e))) ∙ ap (λ n. list_all (is_finished entries wanted) (range_with_len 1 n)) are.count
