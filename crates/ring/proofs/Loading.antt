-- What the processor knows while it loads a packet.
use Rattle.std.proofs.Common.{◌≡◌, ◌≢◌, ℕ, zero, suc, ◌+◌, ◌<◌, Bool, true, false, List, [], ◌∷◌, ◌++◌, length, get_or, set, map, refl, ap, ◌∙◌, sym, subst, arith, get_or-set_same, get_or-set_other}
use Rattle.std.specs.Prelude.{Option, Some, None, is_some, slice_index, ◌&&◌}
use Rattle.std.proofs.lemmas.Bool.Decides.{nat_tests}
use Rattle.atomic_table.specs.Table.{Me}
use Rattle.ring_core.specs.declared.access.Access.TheVariants.{LoadHeader, LoadBody}
use Rattle.ring_core.specs.declared.access.Made.{Made}
use Rattle.ring_core.specs.declared.part.SeatPart.{SeatPart}
use Rattle.ring_core.specs.declared.part.SeatPart.TheVariants.{Processor}
use Rattle.ring_core.specs.declared.part.ProcessorPart.{ProcessorPart}
use Rattle.ring_core.specs.Words.{word, is_body, is_invalid}
use Rattle.ring_core.specs.Parts.{after_processing}
use Rattle.ring_core.specs.Machine.{word_place}
use Rattle.ring_core.specs.Rule.{IsRule}
use Rattle.ring.specs.declared.share.Numbered.{Numbered}
use Rattle.ring.specs.Places.{table_place}
use Rattle.ring.specs.Shares.{alone}
use Rattle.ring.specs.Passes.{RingSeen, only_part}
use Rattle.ring_core.specs.Runs.{after_own}
use Rattle.ring.specs.Made.{WasMade, knowing_all, read}
use Rattle.ring.specs.inner.Halfway.{body_read}
use Rattle.ring.specs.Steps.{only_number, IsReady, HasGained}
use Rattle.ring.specs.Showing.{IsLoadable}
use Rattle.ring.proofs.Facts.{processor_at}
use Rattle.ring.proofs.Filling.{knowing_append}
use Rattle.ring.proofs.Gains.{ready_of}
use Rattle.ring.proofs.Places.{table_from}

-- the processor has places for eight words
pub eight_places : (size producers number : ℕ) (q : ProcessorPart) (made : Made) → 0 < size → WasMade size producers number (Processor q) made → length q.collected ≡ 8
eight_places size producers number q made pos h =
    let rule : IsRule producers h.machine = h.are.rule in
    ap (λ u. length u.collected) (sym (processor_at producers h.machine.parts number q rule.shared.seats h.had)) ∙ rule.tied.eight_collected

-- words collected by loading body words 1 to k
abbrev pub gathered : List ℕ → List (Option ℕ) → ℕ → List (Option ℕ)
gathered words collected zero = collected
gathered words collected (suc k) = set (gathered words collected k) (suc k) (Some (slice_index words (suc k)))

gathered_header : (words : List ℕ) (collected : List (Option ℕ)) (k : ℕ) → word (gathered words collected k) 0 ≡ word collected 0
gathered_header words collected zero = refl
gathered_header words collected (suc k) =
    get_or-set_other (gathered words collected k) (suc k) 0 (Some (slice_index words (suc k))) None (λ e. absurd (omega (arith, e))) ∙ gathered_header words collected k

pub record Gathered (words : List ℕ) (q : ProcessorPart) (k : ℕ) : Type 0 where
  pub part : ProcessorPart
  pub is : knowing_all (Processor q) (body_read words k) ≡ Processor part
  pub collected : part.collected ≡ gathered words q.collected k
  pub retired : part.retired ≡ q.retired
  pub raising : part.raising ≡ q.raising

pub gathering : (words : List ℕ) (q : ProcessorPart) (k : ℕ) → Gathered words q k
gathering words q zero = record { part = q; is = refl; collected = refl; retired = refl; raising = refl }
gathering words q (suc k) =
    let h = gathering words q k in
    let w : ℕ = slice_index words (suc k) in
    record {
      part = after_processing h.part (LoadBody (suc k)) w;
      is = knowing_append (Processor q) (body_read words k) (read (LoadBody (suc k)) w ∷ []) ∙ ap (λ u. after_own u (read (LoadBody (suc k)) w)) h.is;
      collected = ap (λ (c : List (Option ℕ)). set c (suc k) (Some w)) h.collected;
      retired = h.retired;
      raising = h.raising;
    }

-- a word that is read later leaves those read before
pub read_before : (words : List ℕ) (i w j : ℕ) → j < i → body_read (set words i w) j ≡ body_read words j
read_before words i w zero lt = refl
read_before words i w (suc j) lt =
    let ne : suc j ≢ i = λ e. absurd (omega (arith, e, lt)) in
    let e : get_or (set words i w) (suc j) 0 ≡ get_or words (suc j) 0 = get_or-set_other words i (suc j) w 0 ne in
    λ n. read_before words i w j (omega (arith, lt)) n ++ read (LoadBody (suc j)) (e n) ∷ []

pub read_more : (words : List ℕ) (w k : ℕ) → k + 1 < length words → body_read (set words (k + 1) w) (k + 1) ≡ body_read words k ++ read (LoadBody (k + 1)) w ∷ []
read_more words w k lt =
    let e : suc k ≡ k + 1 = omega arith in
    let lt' : suc k < length words = omega (arith, lt) in
    subst (λ (n : ℕ). body_read (set words n w) n ≡ body_read words k ++ read (LoadBody n) w ∷ []) e
    (λ n. read_before words (suc k) w k (omega arith) n ++ read (LoadBody (suc k)) (get_or-set_same words (suc k) w 0 lt' n) ∷ [])

two : (a b : Bool) → a ≡ true → b ≡ true → (a && b) ≡ true
two a b e f = rw (e, f) refl

header_set : (header : ℕ) (collected : List (Option ℕ)) → 0 < length collected → is_some (word (set collected 0 (Some header)) 0) ≡ true
header_set header collected lt = ap is_some (get_or-set_same collected 0 (Some header) None lt)

module _ {S : Type 0} (ring : RingSeen) (me me1 : Me S (List Numbered)) (next header slot : ℕ) (f : IsLoadable me next) (pos : 0 < ring.size) (slot_is : slot ≡ table_place (word_place ring.size next 0))
    (valid : is_invalid header ≡ false) (told : HasGained ring.size ring.producers me (read LoadHeader header ∷ []) me1) where
  abbrev part1 : ProcessorPart
  part1 = after_processing f.part LoadHeader header

  me_part : only_part me.0 ≡ Processor f.part
  me_part = ap (λ (m : Me S (List Numbered)). only_part m.0) f.one

  pub me1_is : me1 ≡ (alone (only_number me.0) (Processor part1), [])
  me1_is = told.knows ∙ (λ i. (alone (only_number me.0) (knowing_all (me_part i) (read LoadHeader header ∷ [])), []))

  pub collected1 : part1.collected ≡ set f.part.collected 0 (Some header)
  collected1 = rw valid refl

  pub eight1 : length f.part.collected ≡ 8
  eight1 = eight_places ring.size ring.producers (only_number me.0) f.part (read LoadHeader header) pos (subst (λ (u : SeatPart). WasMade ring.size ring.producers (only_number me.0) u (read LoadHeader header)) me_part told.were.0)

  module _ (words : List ℕ) (k : ℕ) (me2 : Me S (List Numbered)) (h : HasGained ring.size ring.producers me1 (body_read words k) me2) where
    abbrev body : Gathered words part1 k
    body = gathering words part1 k

    me2_is : me2 ≡ (alone (only_number me.0) (Processor body.part), [])
    me2_is = h.knows ∙ (λ i. (alone (only_number (me1_is i).0) (knowing_all (only_part (me1_is i).0) (body_read words k)), [])) ∙ (λ i. (alone (only_number me.0) (body.is i), []))

    pub ready_load : k < 7 → IsReady ring me2 (LoadBody (k + 1)) (slot + (k + 1))
    ready_load lt =
        let b : is_body (k + 1) ≡ true = grind (arith, nat_tests) in
        let shown : is_some (word body.part.collected 0) ≡ true =
        ap (λ (c : List (Option ℕ)). is_some (word c 0)) body.collected ∙ ap is_some (gathered_header words part1.collected k) ∙ ap (λ (c : List (Option ℕ)). is_some (word c 0)) collected1 ∙ header_set header f.part.collected (omega (arith, eight1)) in
        ready_of ring me2 (only_number me.0) (Processor body.part) (LoadBody (k + 1)) (slot + (k + 1)) me2_is
        (two (is_body (k + 1)) (is_some (word body.part.collected 0)) b shown)
        (λ index e.
        let same : next ≡ index = f.index ∙ ap length (sym body.retired) ∙ sym e in
        ap (λ n. n + (k + 1)) slot_is ∙ table_from ring.size next (k + 1) ∙ ap (λ n. table_place (word_place ring.size n (k + 1))) same)

-- eight words collected in turn are the packet
pub all_gathered : (words : List ℕ) (collected : List (Option ℕ)) → length words ≡ 8 → length collected ≡ 8 → gathered words (set collected 0 (Some (slice_index words 0))) 7 ≡ map Some words
all_gathered (a ∷ b ∷ c ∷ d ∷ e ∷ f ∷ g ∷ h ∷ []) collected n m = places collected m
  where
    places : (ws : List (Option ℕ)) → length ws ≡ 8 → set (set (set (set (set (set (set (set ws 0 (Some a)) 1 (Some b)) 2 (Some c)) 3 (Some d)) 4 (Some e)) 5 (Some f)) 6 (Some g)) 7 (Some h) ≡ Some a ∷ Some b ∷ Some c ∷ Some d ∷ Some e ∷ Some f ∷ Some g ∷ Some h ∷ []
    places (x1 ∷ x2 ∷ x3 ∷ x4 ∷ x5 ∷ x6 ∷ x7 ∷ x8 ∷ []) n = refl
    places (x1 ∷ x2 ∷ x3 ∷ x4 ∷ x5 ∷ x6 ∷ x7 ∷ x8 ∷ x9 ∷ xs) n = absurd (omega arith)
    places [] n = absurd (omega arith)
    places (a ∷ []) n = absurd (omega arith)
    places (a ∷ b ∷ []) n = absurd (omega arith)
    places (a ∷ b ∷ c ∷ []) n = absurd (omega arith)
    places (a ∷ b ∷ c ∷ d ∷ []) n = absurd (omega arith)
    places (a ∷ b ∷ c ∷ d ∷ e ∷ []) n = absurd (omega arith)
    places (a ∷ b ∷ c ∷ d ∷ e ∷ f ∷ []) n = absurd (omega arith)
    places (a ∷ b ∷ c ∷ d ∷ e ∷ f ∷ g ∷ []) n = absurd (omega arith)
all_gathered (a ∷ b ∷ c ∷ d ∷ e ∷ f ∷ g ∷ h ∷ i ∷ xs) collected n m = absurd (omega arith)
all_gathered [] collected n m = absurd (omega arith)
all_gathered (a ∷ []) collected n m = absurd (omega arith)
all_gathered (a ∷ b ∷ []) collected n m = absurd (omega arith)
all_gathered (a ∷ b ∷ c ∷ []) collected n m = absurd (omega arith)
all_gathered (a ∷ b ∷ c ∷ d ∷ []) collected n m = absurd (omega arith)
all_gathered (a ∷ b ∷ c ∷ d ∷ e ∷ []) collected n m = absurd (omega arith)
all_gathered (a ∷ b ∷ c ∷ d ∷ e ∷ f ∷ []) collected n m = absurd (omega arith)
all_gathered (a ∷ b ∷ c ∷ d ∷ e ∷ f ∷ g ∷ []) collected n m = absurd (omega arith)
