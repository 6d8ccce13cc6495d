-- The words of a ring and the shares of all its seats are one machine, and each access is one step of it.
use Rattle.std.proofs.Common.{◌≡◌, ◌≢◌, ℕ, suc, ◌+◌, ◌*◌, ◌<◌, ◌≤◌, true, false, List, [], ◌∷◌, ◌++◌, length, get_or, take, drop, eqb, refl, ap, ◌∙◌, sym, subst, arith, inl, inr, cond}
use Rattle.std.specs.Prelude.{sum_by, nat_lt, slice_set}
use Rattle.std.proofs.lemmas.Bool.Decides.{nat_tests, eqb_tells, leb_tells}
use Rattle.std.proofs.lemmas.List.Sums.{sum_by-cons}
use mathlib.Core.Option.{some}
use lib.ListN.{get_elem?}
use Rattle.atomic_table.specs.Table.{State}
use Rattle.ring_core.specs.declared.access.Access.{Access}
use Rattle.ring_core.specs.declared.access.Step.{Step}
use Rattle.ring_core.specs.declared.part.SeatPart.{SeatPart}
use Rattle.ring_core.specs.Parts.{may_make, nobody, seen_by}
use Rattle.ring_core.specs.Machine.{Machine, Makes, Replays, machine_of, part_at, made, touched, found, word_after, knows_after, is_allowed}
use Rattle.ring_core.proofs.Kept.{keeps, replays_keep, seated}
use Rattle.ring_core.proofs.States.{replays_push}
use Rattle.ring.specs.declared.share.Numbered.{Numbered}
use Rattle.ring.specs.declared.share.RingShape.{RingShape}
use Rattle.ring.specs.Places.{words_seen}
use Rattle.ring.specs.Shares.{alone, AreOf, times_in, Unite, AreMachine, IsKept, IsOneStep}
use Rattle.ring.specs.Made.{step_by}
use Rattle.ring.proofs.Places.{wide, seen_set}
use Rattle.ring.proofs.Shares.{unite_step, unite_cut, unite_join}

-- ---- what the table keeps is a machine

pub machine_kept : (size producers : ℕ) (words : List ℕ) (shares : List (List Numbered)) (steps : List Step) (parts : List SeatPart) → 0 < size
    → Replays size producers steps (machine_of size (words_seen words) parts) → Unite parts shares → AreMachine size producers words shares (machine_of size (words_seen words) parts)
machine_kept size producers words shares steps parts pos leads unite =
    record {
      sized = refl;
      are = refl;
      unite = unite;
      reached = (steps, leads);
      rule = replays_keep size producers steps (machine_of size (words_seen words) parts) pos leads;
    }

pub kept_machine : {S : Type 0} (shape : RingShape) (state : State S (List Numbered)) → 0 < shape.size → IsKept shape state
    → (machine : Machine) × AreMachine shape.size shape.producers state.words state.views machine
kept_machine shape state pos h =
    (machine_of shape.size (words_seen state.words) h.1, machine_kept shape.size shape.producers state.words state.views h.0 h.1 pos h.2 h.3)

-- the table of a machine has both its indices
pub has_indices : (size producers : ℕ) (words : List ℕ) (shares : List (List Numbered)) (machine : Machine) → AreMachine size producers words shares machine → 32 < length words
has_indices size producers words shares machine are =
    let n : length machine.words ≡ 2 + 8 * machine.size = are.rule.words in
    let e : length machine.words ≡ length (words_seen words) = ap length are.are in
    wide words (omega (arith, n, e))

-- ---- an access is one step

pub one_step : (size producers : ℕ) (words : List ℕ) (shares : List (List Numbered)) (machine : Machine) (seat number : ℕ) (part : SeatPart) (access : Access)
    → AreMachine size producers words shares machine → get_elem? shares seat ≡ some (alone number part) → may_make size part access ≡ true
    → IsOneStep size producers words shares machine seat (step_by number access)
one_step size producers words shares machine seat number part access are at may =
    let step : Step = step_by number access in
    let had : part_at machine number ≡ part = (are.unite.own seat (alone number part) at).0 in
    let allowed : is_allowed machine step ≡ true = (λ i. may_make (are.sized i) (had i) access) ∙ may in
    let makes : Makes machine step (seen_by access (found machine step)) (made machine step) = record { allowed = allowed; told = refl; leads = refl } in
    let within : number < length machine.parts = seated machine.size machine.parts number access allowed in
    record {
      makes = makes;
      become = record {
        sized = are.sized;
        are = ap (λ ws. slice_set ws (touched machine step) (word_after access (found machine step))) are.are
            ∙ sym (seen_set words (touched machine step) (word_after access (found machine step)) (has_indices size producers words shares machine are));
        unite = unite_step machine.parts shares seat number part (knows_after machine step) at within are.unite;
        reached = (are.reached.0 ++ step ∷ [], replays_push size producers are.reached.0 machine (made machine step) step (seen_by access (found machine step)) are.reached.1 makes);
        rule = keeps producers machine step are.rule allowed;
      };
    }

-- ---- seats that are cut and joined

pub cut_same : (size producers : ℕ) (words : List ℕ) (shares : List (List Numbered)) (machine : Machine) (seat : ℕ) (share : List Numbered)
    → AreMachine size producers words shares machine → get_elem? shares seat ≡ some share
    → AreMachine size producers words (slice_set shares seat (drop 1 share) ++ take 1 share ∷ []) machine
cut_same size producers words shares machine seat share are at =
    record { sized = are.sized; are = are.are; unite = unite_cut machine.parts shares seat share at are.unite; reached = are.reached; rule = are.rule }

pub join_same : (size producers : ℕ) (words : List ℕ) (shares : List (List Numbered)) (machine : Machine) (seat other : ℕ) (share theirs : List Numbered)
    → AreMachine size producers words shares machine → other ≢ seat → get_elem? shares seat ≡ some share
    → get_elem? (slice_set shares seat (share ++ theirs)) other ≡ some theirs
    → AreMachine size producers words (slice_set (slice_set shares seat (share ++ theirs)) other []) machine
join_same size producers words shares machine seat other share theirs are apart at there =
    record { sized = are.sized; are = are.are; unite = unite_join machine.parts shares seat other share theirs at there apart are.unite; reached = are.reached; rule = are.rule }

-- ---- they are one machine alone

eqb_no : (a b : ℕ) → a ≢ b → eqb a b ≡ false
eqb_no a b e = grind (arith, nat_tests)

-- a number that is in some share
some_share : (number : ℕ) (shares : List (List Numbered)) → 1 ≤ sum_by (times_in number) shares
    → (seat : ℕ) × (share : List Numbered) × (get_elem? shares seat ≡ some share) × (1 ≤ times_in number share)
some_share number [] least = absurd (let e : sum_by (times_in number) [] ≡ 0 = refl in omega (arith, least, e))
some_share number (share ∷ shares) least =
    elim (leb_tells 1 (times_in number share)) [
      | inl g ↦ (0, share, refl, g.1)
      | inr g ↦
          let r = some_share number shares (omega (arith, least, g.1, sum_by-cons (times_in number) share shares)) in
          (suc r.0, r.1, r.2, r.3)
    ]

-- a share tells the part of a number that is in it
same_part : (number : ℕ) (one two : List SeatPart) (share : List Numbered) → 1 ≤ times_in number share → AreOf one share → AreOf two share → get_or one number nobody ≡ get_or two number nobody
same_part number one two [] least a b = absurd (omega (arith, least))
same_part number one two (entry ∷ share) least a b =
    elim (eqb_tells entry.number number) [
      | inl g ↦ subst (λ (n : ℕ). get_or one n nobody ≡ get_or two n nobody) g.1 (a.0 ∙ sym b.0)
      | inr g ↦
          let none : cond {A = ℕ} (eqb entry.number number) 1 0 ≡ 0 = ap (λ b. cond {A = ℕ} b 1 0) (eqb_no entry.number number g.1) in
          same_part number one two share (omega (arith, least, none)) a.1 b.1
    ]

lt_yes : (a b : ℕ) → a < b → nat_lt a b ≡ true
lt_yes a b e = grind (arith, nat_tests)

lt_no : (a b : ℕ) → b ≤ a → nat_lt a b ≡ false
lt_no a b e = grind (arith, nat_tests)

-- how often a number is in the shares tells whether there is a part with it
inside_once : (parts : List SeatPart) (shares : List (List Numbered)) (number : ℕ) → Unite parts shares → number < length parts → sum_by (times_in number) shares ≡ 1
inside_once parts shares number u lt = u.once number ∙ ap (λ b. cond {A = ℕ} b 1 0) (lt_yes number (length parts) lt)

past_never : (parts : List SeatPart) (shares : List (List Numbered)) (number : ℕ) → Unite parts shares → length parts ≤ number → sum_by (times_in number) shares ≡ 0
past_never parts shares number u le = u.once number ∙ ap (λ b. cond {A = ℕ} b 1 0) (lt_no number (length parts) le)

not_more : (one two : List SeatPart) (shares : List (List Numbered)) → Unite one shares → Unite two shares → length one ≤ length two
not_more one two shares u v =
    elim (leb_tells (length one) (length two)) [
      | inl g ↦ g.1
      | inr g ↦
          let a : sum_by (times_in (length two)) shares ≡ 1 = inside_once one shares (length two) u g.1 in
          let b : sum_by (times_in (length two)) shares ≡ 0 = past_never two shares (length two) v (omega arith) in
          absurd (omega (arith, a, b))
    ]

same_lists : (one two : List SeatPart) → length one ≡ length two → ((k : ℕ) → k < length one → get_or one k nobody ≡ get_or two k nobody) → one ≡ two
same_lists [] [] n e = refl
same_lists [] (y ∷ two) n e = absurd (omega (arith, n))
same_lists (x ∷ one) [] n e = absurd (omega (arith, n))
same_lists (x ∷ one) (y ∷ two) n e =
    let first : x ≡ y = e 0 (omega arith) in
    let others : one ≡ two = same_lists one two (omega (arith, n)) (λ k lt. e (suc k) (omega (arith, lt))) in
    λ i. first i ∷ others i

unite_same : (one two : List SeatPart) (shares : List (List Numbered)) → Unite one shares → Unite two shares → one ≡ two
unite_same one two shares u v =
    same_lists one two (omega (arith, not_more one two shares u v, not_more two one shares v u))
    (λ k lt.
    let once : sum_by (times_in k) shares ≡ 1 = inside_once one shares k u lt in
    let r = some_share k shares (omega (arith, once)) in
    same_part k one two r.1 r.3 (u.own r.0 r.1 r.2) (v.own r.0 r.1 r.2))

pub one_machine : (size producers : ℕ) (words : List ℕ) (shares : List (List Numbered)) (one two : Machine) → AreMachine size producers words shares one → AreMachine size producers words shares two → one ≡ two
one_machine size producers words shares one two a b =
    let sizes : one.size ≡ two.size = a.sized ∙ sym b.sized in
    let same : one.words ≡ two.words = a.are ∙ sym b.are in
    let parts : one.parts ≡ two.parts = unite_same one.parts two.parts shares a.unite b.unite in
    λ i. record { size = sizes i; words = same i; parts = parts i }
