-- The table's fact holds as a ring opens, and each step, cut and join keeps it.
use Rattle.std.proofs.Common.{◌≡◌, ℕ, ◌+◌, ◌%◌, ◌^◌, ◌<◌, true, List, [], ◌++◌, set, take, drop, refl, ap, ◌∙◌, sym, subst}
use Rattle.std.specs.Prelude.{slice_index}
use Rattle.atomic_table.specs.Table.{Me, Allows, Splits, Joins, opening, keeps}
use Rattle.ring_core.specs.declared.access.Access.{Access}
use Rattle.ring_core.specs.declared.access.Access.TheVariants.{Reserve, LoadReadIndex, StoreBody, StoreHeader, LoadHeader, LoadBody, ClearHeader, RaiseReadIndex}
use Rattle.ring_core.specs.declared.access.Made.{Made}
use Rattle.ring_core.specs.declared.access.Seen.TheVariants.{Stored}
use Rattle.ring_core.specs.declared.part.SeatPart.TheVariants.{Producer, Processor}
use Rattle.ring_core.specs.declared.access.Step.{Step}
use Rattle.ring_core.specs.declared.part.SeatPart.{SeatPart}
use Rattle.ring_core.specs.Parts.{may_make, part_after, seen_by}
use Rattle.aql_packet.specs.Ring.{is_ring_size}
use Rattle.ring_core.specs.Machine.{Machine, Makes, machine_of, part_at, touched, found, made, opened, Replays, knows_after, word_after, place_of, read_index, is_allowed}
use Rattle.ring_core.specs.Rule.{IsRule, IsRing}
use Rattle.ring_core.proofs.Sizes.{ring_size_bounds}
use Rattle.ring_core.specs.Machine.{is_producer_count}
use Rattle.ring.specs.Passes.{RingSeen, only_part}
use Rattle.ring.proofs.Facts.{ring_of, index_of, adds}
use Rattle.ring.specs.declared.share.Numbered.{Numbered}
use Rattle.ring.specs.declared.share.RingShape.{RingShape}
use Rattle.ring.specs.Places.{table_place, words_seen}
use Rattle.ring.specs.Shares.{alone, first_share, shape_of, AreMachine, IsKept, IsOneStep, Unite}
use Rattle.ring_core.specs.Runs.{after_own}
use Rattle.ring.specs.Made.{WasMade, step_by}
use Rattle.ring.specs.Steps.{made_of, only_number, IsReady, IsTold, IsLoad, IsStore, IsAdd}
use Rattle.ring.proofs.Machines.{machine_kept, has_indices, one_step}
use Rattle.ring.proofs.Places.{seen_at}
use Rattle.ring.proofs.Shares.{unite_cut, unite_join, unite_first}

pub kept_first : {S : Type 0} (shape : RingShape) (words : List ℕ) (homes : List S) → words_seen words ≡ (opened shape.size 0).words → IsKept shape (opening words homes (first_share shape))
kept_first {S} shape words homes e =
    ([], (opened shape.size shape.producers).parts, ap (λ (ws : List ℕ). machine_of shape.size ws (opened shape.size shape.producers).parts) e, unite_first (opened shape.size shape.producers).parts)

pub cuts : {S : Type 0} (shape : RingShape) (id : ℕ) (share : List Numbered) → Splits (IsKept {S = S} shape) id share (drop 1 share) (take 1 share)
cuts {S} shape id share s h at = (h.0, h.1, h.2, unite_cut h.1 s.views id share at h.3)

pub joins : {S : Type 0} (shape : RingShape) (id : ℕ) (share : List Numbered) (other : ℕ) (theirs : List Numbered) → Joins (IsKept {S = S} shape) id share other theirs (share ++ theirs) []
joins {S} shape id share other theirs s h at ne at' = (h.0, h.1, h.2, unite_join h.1 s.views id other share theirs at at' ne h.3)

-- a step of a seat with one part, which may make it: the word has the place of the access, and becomes
-- what the access leaves there
pub steps : {S : Type 0} (size producers id number slots place : ℕ) (part : SeatPart) (access : Access) (f : ℕ → ℕ) (then : ℕ → Me S (List Numbered) → Type 0)
    → 0 < size
    → may_make size part access ≡ true
    → ((machine : Machine) → IsRule producers machine → machine.size ≡ size → part_at machine number ≡ part → (place ≡ table_place (touched machine (step_by number access))) × (f (found machine (step_by number access)) ≡ word_after access (found machine (step_by number access))))
    → ((n : ℕ) → WasMade size producers number part (made_of access n) → then n (alone number (part_after part access n), []))
    → Allows (IsKept (shape_of size producers)) slots id (alone number part, []) place f then
steps {S} size producers id number slots place part access f then pos may where_ tells s h wide at small =
    let machine : Machine = machine_of size (words_seen s.words) h.1 in
    let are : AreMachine size producers s.words s.views machine = machine_kept size producers s.words s.views h.0 h.1 pos h.2 h.3 in
    let step : Step = step_by number access in
    let go : IsOneStep size producers s.words s.views machine id step = one_step size producers s.words s.views machine id number part access are at may in
    let has : part_at machine number ≡ part = (are.unite.own id (alone number part) at).0 in
    let w = where_ machine are.rule refl has in
    let here : place ≡ table_place (touched machine step) = w.0 in
    let n : ℕ = slice_index s.words place in
    let is : n ≡ found machine step = ap (λ (k : ℕ). slice_index s.words k) here ∙ sym (seen_at s.words (touched machine step) (has_indices size producers s.words s.views machine are)) in
    let becomes : f n ≡ word_after access (found machine step) = ap f is ∙ w.1 in
    let knows : part_after part access n ≡ knows_after machine step = (λ i. part_after (sym has i) access (is i)) in
    let makes : Makes machine step (seen_by access n) (made machine step) = record { allowed = go.makes.allowed; told = ap (seen_by access) is; leads = refl } in (
      alone number (part_after part access n),
      keeps,
      tt,
      (
        go.become.reached.0,
        (made machine step).parts,
        subst (λ (ws : List ℕ). Replays size producers go.become.reached.0 (machine_of size ws (made machine step).parts)) (go.become.are ∙ (λ i. words_seen (set s.words (sym here i) (sym becomes i)))) go.become.reached.1,
        subst (λ (u : SeatPart). Unite (made machine step).parts (set s.views id (alone number u))) (sym knows) go.become.unite,
      ),
      tells n (record { words = s.words; shares = s.views; machine = machine; are = are; seat = id; knew = at; had = has; next = made machine step; makes = makes; become = go.become }),
    )

-- a store leaves its seat the same whatever it found
same_after : (part : SeatPart) (access : Access) (n m : ℕ) → seen_by access n ≡ Stored → seen_by access m ≡ Stored → part_after part access n ≡ part_after part access m
same_after part Reserve n m e f = absurd (cc)
same_after part (LoadReadIndex ticket) n m e f = absurd (cc)
same_after (Producer p) (StoreBody ticket place word) n m e f = refl
same_after (Processor p) (StoreBody ticket place word) n m e f = refl
same_after (Producer p) (StoreHeader ticket word) n m e f = refl
same_after (Processor p) (StoreHeader ticket word) n m e f = refl
same_after part LoadHeader n m e f = absurd (cc)
same_after part (LoadBody place) n m e f = absurd (cc)
same_after (Producer p) ClearHeader n m e f = refl
same_after (Processor p) ClearHeader n m e f = refl
same_after part RaiseReadIndex n m e f = absurd (cc)

-- what a seat knows after a step is told by what it read
as_known : (part : SeatPart) (access : Access) (n : ℕ) → after_own part (made_of access n) ≡ part_after part access n
as_known part Reserve n = refl
as_known part (LoadReadIndex ticket) n = refl
as_known part (StoreBody ticket place word) n = same_after part (StoreBody ticket place word) 0 n refl refl
as_known part (StoreHeader ticket word) n = same_after part (StoreHeader ticket word) 0 n refl refl
as_known part LoadHeader n = refl
as_known part (LoadBody place) n = refl
as_known part ClearHeader n = same_after part ClearHeader 0 n refl refl
as_known part RaiseReadIndex n = refl

-- what a step asks of the table, by what a seat is ready for
module _ {S : Type 0} (ring : RingSeen) (me : Me S (List Numbered)) (access : Access) (place id slots : ℕ) (shape : RingShape)
    (is : shape ≡ shape_of ring.size ring.producers) (fits : is_ring_size ring.size ≡ true) (count : is_producer_count ring.producers ≡ true)
    (ready : IsReady ring me access place) where
  tells_of : (n : ℕ) → WasMade ring.size ring.producers (only_number me.0) (only_part me.0) (made_of access n) → IsTold ring.size ring.producers access me n (alone (only_number me.0) (part_after (only_part me.0) access n), [])
  tells_of n was = record { were = (was, tt); knows = λ i. (alone (only_number me.0) (sym (as_known (only_part me.0) access n) i), []) }

  goes : (f : ℕ → ℕ) (then : ℕ → Me S (List Numbered) → Type 0)
      → ((machine : Machine) → IsRing machine → is_allowed machine (step_by (only_number me.0) access) ≡ true → f (found machine (step_by (only_number me.0) access)) ≡ word_after access (found machine (step_by (only_number me.0) access)))
      → ((n : ℕ) → IsTold ring.size ring.producers access me n (alone (only_number me.0) (part_after (only_part me.0) access n), []) → then n (alone (only_number me.0) (part_after (only_part me.0) access n), []))
      → Allows (IsKept shape) slots id me place f then
  goes f then leaves tells =
      subst (λ (s : RingShape). Allows (IsKept s) slots id me place f then) (sym is)
      (subst (λ (m : Me S (List Numbered)). Allows (IsKept (shape_of ring.size ring.producers)) slots id m place f then) (sym ready.one)
      (steps ring.size ring.producers id (only_number me.0) slots place (only_part me.0) access f then (ring_size_bounds ring.size fits).0 ready.may
      (λ machine rule sized had.
      let r : IsRing machine = ring_of ring.producers ring.size machine rule sized fits count in
      let may : is_allowed machine (step_by (only_number me.0) access) ≡ true = (λ i. may_make (sized i) (had i) access) ∙ ready.may in
      (ready.lies (read_index machine) (index_of ring.producers machine (only_number me.0) (only_part me.0) rule had) ∙ (λ i. table_place (place_of (sym sized i) (read_index machine) access)), leaves machine r may))
      (λ n was. tells n (tells_of n was))))

  pub loads : IsLoad access → Allows (IsKept shape) slots id me place (λ n. n) (λ n after. IsTold ring.size ring.producers access me n after)
  loads kind = goes (λ n. n) (λ n after. IsTold ring.size ring.producers access me n after) (λ machine r may. sym (kind (found machine (step_by (only_number me.0) access)))) (λ n t. t)

  pub stores : (word : ℕ) → IsStore access word → Allows (IsKept shape) slots id me place (λ _. word) (λ _ after. IsTold ring.size ring.producers access me word after)
  stores word kind = goes (λ _. word) (λ _ after. IsTold ring.size ring.producers access me word after) (λ machine r may. sym (kind (found machine (step_by (only_number me.0) access))).0)
      (λ n t. subst (λ (m : Me S (List Numbered)). IsTold ring.size ring.producers access me word m) (λ i. (alone (only_number me.0) (same_after (only_part me.0) access word n (kind word).1 (kind n).1 i), []))
      (tells_of word (subst (λ (d : Made). WasMade ring.size ring.producers (only_number me.0) (only_part me.0) d) (λ i. record { access = access; seen = ((kind n).1 ∙ sym (kind word).1) i }) t.were.0)))

  pub adds_one : IsAdd access → Allows (IsKept shape) slots id me place (λ n. (n + 1) % 2 ^ 64) (λ n after. IsTold ring.size ring.producers access me n after)
  adds_one kind = goes (λ n. (n + 1) % 2 ^ 64) (λ n after. IsTold ring.size ring.producers access me n after) (λ machine r may. adds machine (only_number me.0) access r may kind) (λ n t. t)
