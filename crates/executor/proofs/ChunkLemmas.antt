-- Chunks of pages, and chunks by ascending number.
use Rattle.std.proofs.Common.{◌≡◌, ◌≢◌, ℕ, zero, suc, ◌+◌, ◌-◌, ◌*◌, ◌/◌, ◌%◌, ◌^◌, ◌<◌, ◌≤◌, ◌⊎◌, inl, inr, Bool, true, false, List, [], ◌∷◌, ◌++◌, length, get_or, slice_set, refl, sym, ap, ◌∙◌, arith, subst, Option, Some, None, bit_or}
use Rattle.std.specs.Prelude.{◌==◌, if◌then◌else◌, min, max}
use Rattle.std.specs.List.{insert}
use Rattle.std.specs.List.Sorted.{IsNonDecreasingBy, IsPartitionPoint}
use Rattle.std.specs.Int.{bit_at, w64}
use Rattle.std.specs.Option.{option_and_then}
use Rattle.std.proofs.lemmas.Bool.{cases_eq, cases_lt}
use Rattle.std.proofs.lemmas.Bool.Decides.{nat_tests}
use Rattle.std.proofs.lemmas.Nat.Bits.{bit_at_set_other, bit_at_set_same}
use Rattle.std.proofs.Common.{length-append, ltb, ltb-true, ltb-false}
use Rattle.executor.specs.declared.page.Page.{Page}
use Rattle.executor.specs.declared.written_range.WrittenRange.{WrittenRange}
use Rattle.executor.specs.inner.Pages.{ChunkSeen, IsChunk, page_byte, page_at, page_of, chunk_byte, chunk_of, byte_at, unplaced, number_at, Rises, StandsAt, PlaceOf, Parts, IsApart, IsPage, page_place, IsWritten}
use Rattle.byteorder.specs.Endian.{little_number}
use Rattle.executor.specs.Written.{laid, seen, AreRuns}
use Rattle.executor.specs.Told.{runs_of}
use Rattle.executor.specs.inner.Told.{Told, Gathers, NextRun}
use Rattle.executor.specs.inner.Words.{laid_if, or_below, seen_number, IsWhole}
use Rattle.executor.proofs.Maps.{size_64, size_chunk, at_known, at_unknown, laid_same, seen_block, seen_no_block, seen_none, level_stored}
use Rattle.executor.proofs.RunLemmas.{told_all, told_at, told_nothing, told_runs, told_skipped, gathers_gap, gathers_block}
use Rattle.executor.proofs.WordLemmas.{level_read, level_unread, level_overwritten}

-- ---- lists
pub get_or_set_same : {X : Type 0} (xs : List X) (i : ℕ) (v d : X) → i < length xs → get_or (slice_set xs i v) i d ≡ v
get_or_set_same [] i v d h = absurd (omega arith)
get_or_set_same (x ∷ xs) zero v d h = refl
get_or_set_same (x ∷ xs) (suc i) v d h = get_or_set_same xs i v d (omega arith)

pub get_or_set_other : {X : Type 0} (xs : List X) (i j : ℕ) (v d : X) → j ≢ i → get_or (slice_set xs i v) j d ≡ get_or xs j d
get_or_set_other [] i j v d other = refl
get_or_set_other (x ∷ xs) zero zero v d other = absurd (other refl)
get_or_set_other (x ∷ xs) zero (suc j) v d other = refl
get_or_set_other (x ∷ xs) (suc i) zero v d other = refl
get_or_set_other (x ∷ xs) (suc i) (suc j) v d other = get_or_set_other xs i j v d (λ e. other (ap suc e))

pub length_set : {X : Type 0} (xs : List X) (i : ℕ) (v : X) → length (slice_set xs i v) ≡ length xs
length_set [] i v = refl
length_set (x ∷ xs) zero v = refl
length_set (x ∷ xs) (suc i) v = ap suc (length_set xs i v)

get_or_left : {X : Type 0} (xs ys : List X) (i : ℕ) (d : X) → i < length xs → get_or (xs ++ ys) i d ≡ get_or xs i d
get_or_left [] ys i d h = absurd (omega arith)
get_or_left (x ∷ xs) ys zero d h = refl
get_or_left (x ∷ xs) ys (suc i) d h = get_or_left xs ys i d (omega arith)

-- what a number is beside another
by_equal : {P : Type 0} (a b : ℕ) → (a ≡ b → P) → (a ≢ b → P) → P
by_equal {P} a b same other = at (cases_lt a b) (cases_lt b a)
  where
    at : (a < b) ⊎ (b ≤ a) → (b < a) ⊎ (a ≤ b) → P
    at (inl p) q = other (λ e. absurd (omega arith))
    at (inr p) (inl q) = other (λ e. absurd (omega arith))
    at (inr p) (inr q) = same (omega arith)

same_test : (a b : ℕ) → a ≡ b → (a == b) ≡ true
same_test a b e = grind (arith, nat_tests)

other_test : (a b : ℕ) → a ≢ b → (a == b) ≡ false
other_test a b e = grind (arith, nat_tests)

-- ---- one chunk
unplaced_set : (places : List ℕ) (i v : ℕ) → i < length places → get_or places i 0 ≡ 0 → 0 < v → unplaced (slice_set places i v) + 1 ≡ unplaced places
unplaced_set [] i v h e some = absurd (omega arith)
unplaced_set (p ∷ places) zero v h e some = rw (same_test p 0 e, other_test v 0 (omega arith)) (omega arith)
unplaced_set (p ∷ places) (suc i) v h e some =
    let rest : unplaced (slice_set places i v) + 1 ≡ unplaced places = unplaced_set places i v (omega arith) e some in
    omega arith

few_unplaced : (places : List ℕ) → unplaced places ≤ length places
few_unplaced [] = omega arith
few_unplaced (zero ∷ places) = let one : unplaced (zero ∷ places) ≡ 1 + unplaced places = refl in omega (arith, few_unplaced places, one)
few_unplaced (suc p ∷ places) = let same : unplaced (suc p ∷ places) ≡ 0 + unplaced places = rw (other_test (suc p) 0 (λ e. absurd (omega (arith, e)))) refl in omega (arith, few_unplaced places, same)

all_unplaced : (places : List ℕ) → unplaced places ≡ length places → (i : ℕ) → get_or places i 0 ≡ 0
all_unplaced [] all i = refl
all_unplaced (zero ∷ places) all zero = refl
all_unplaced (zero ∷ places) all (suc i) = let one : unplaced (zero ∷ places) ≡ 1 + unplaced places = refl in all_unplaced places (omega (arith, all, one)) i
all_unplaced (suc p ∷ places) all i = let same : unplaced (suc p ∷ places) ≡ 0 + unplaced places = rw (other_test (suc p) 0 (λ e. absurd (omega (arith, e)))) refl in absurd (omega (arith, few_unplaced places, all, same))

-- the chunk in which no page was made
pub chunk_empty : (number : ℕ) (touched places : List ℕ) (page : Page) (pages : List Page) → length touched ≡ 2 → length places ≡ 128 → unplaced places ≡ 128 → pages ≡ page ∷ []
    → ((x : ℕ) → page_byte page x ≡ None) → IsChunk (record { number = number; touched = touched; places = places; pages = pages })
chunk_empty number touched places page pages two long none is empty =
    let zeros : (i : ℕ) → get_or places i 0 ≡ 0 = all_unplaced places (none ∙ sym long) in
    let one : length pages ≡ 1 = ap length is in
    record {
      long = long;
      count = omega (arith, one, none);
      some = omega (arith, one);
      empty = λ x. ap (λ ps. page_byte (page_at ps 0) x) is ∙ empty x;
      within = λ i. omega (arith, zeros i, one);
      apart = λ i j some same. absurd (omega (arith, zeros i));
      words = two;
      marked = λ i h e. zeros i;
    }

-- a page of a chunk is changed
abbrev pub with_page : ChunkSeen → ℕ → Page → ChunkSeen
with_page chunk place page = record { number = chunk.number; touched = chunk.touched; places = chunk.places; pages = slice_set chunk.pages place page }

module _ (chunk : ChunkSeen) (is : IsChunk chunk) (index : ℕ) (page : Page) (own : 0 < get_or chunk.places index 0) where
  pub page_changed : page_of (with_page chunk (get_or chunk.places index 0) page) index ≡ Some page
  page_changed = ap Some (get_or_set_same chunk.pages (get_or chunk.places index 0) page _ (is.within index))

  pub pages_kept : (n : ℕ) → n ≢ index → page_of (with_page chunk (get_or chunk.places index 0) page) n ≡ page_of chunk n
  pages_kept n other =
      ap Some (get_or_set_other chunk.pages (get_or chunk.places index 0) (get_or chunk.places n 0) page _
      (λ e. other (sym (is.apart index n own (sym e)))))

-- a page of a chunk is made
abbrev pub with_new : ChunkSeen → ℕ → Page → ChunkSeen
with_new chunk index page =
    record {
      number = chunk.number;
      touched = slice_set chunk.touched (index / 64) (bit_or (get_or chunk.touched (index / 64) 0) (1 * 2 ^ (index % 64) % 2 ^ 64));
      places = slice_set chunk.places index (length chunk.pages);
      pages = chunk.pages ++ page ∷ [];
    }

module _ (chunk : ChunkSeen) (is : IsChunk chunk) (index : ℕ) (page : Page) (inside : index < 128) (unknown : get_or chunk.places index 0 ≡ 0) (empty : (x : ℕ) → page_byte page x ≡ None) where
  here : get_or (slice_set chunk.places index (length chunk.pages)) index 0 ≡ length chunk.pages
  here = get_or_set_same chunk.places index (length chunk.pages) 0 (omega (arith, is.long))

  there : (n : ℕ) → n ≢ index → get_or (slice_set chunk.places index (length chunk.pages)) n 0 ≡ get_or chunk.places n 0
  there n other = get_or_set_other chunk.places index n (length chunk.pages) 0 other

  abbrev word : ℕ
  word = bit_or (get_or chunk.touched (index / 64) 0) (1 * 2 ^ (index % 64) % 2 ^ 64)

  abbrev marks : List ℕ
  marks = slice_set chunk.touched (index / 64) word

  own_mark : bit_at (get_or marks (index / 64) 0) (index % 64) ≡ 1
  own_mark =
      ap (λ k. bit_at k (index % 64)) (get_or_set_same chunk.touched (index / 64) word 0 (omega (arith, is.words)))
      ∙ bit_at_set_same w64 (get_or chunk.touched (index / 64) 0) (index % 64) (omega arith)

  other_marks : (i : ℕ) → i ≢ index → bit_at (get_or marks (i / 64) 0) (i % 64) ≡ bit_at (get_or chunk.touched (i / 64) 0) (i % 64)
  other_marks i other = by_equal (i / 64) (index / 64)
      (λ same.
      let at : get_or marks (i / 64) 0 ≡ word = ap (λ k. get_or marks k 0) same ∙ get_or_set_same chunk.touched (index / 64) word 0 (omega (arith, is.words)) in
      let apart : i % 64 ≢ index % 64 = λ f. other (omega (arith, same, f)) in
      ap (λ k. bit_at k (i % 64)) at
      ∙ (bit_at_set_other w64 (get_or chunk.touched (index / 64) 0) (index % 64) (omega arith) (i % 64) apart
      ∙ ap (λ k. bit_at (get_or chunk.touched k 0) (i % 64)) (sym same)))
      (λ far. ap (λ k. bit_at k (i % 64)) (get_or_set_other chunk.touched (index / 64) (i / 64) word 0 far))

  pub chunk_new : IsChunk (with_new chunk index page)
  chunk_new =
      let more : length (chunk.pages ++ page ∷ []) ≡ length chunk.pages + 1 = length-append chunk.pages (page ∷ []) in
      let fewer : unplaced (slice_set chunk.places index (length chunk.pages)) + 1 ≡ unplaced chunk.places =
      unplaced_set chunk.places index (length chunk.pages) (omega (arith, is.long)) unknown is.some in
      record {
        long = length_set chunk.places index (length chunk.pages) ∙ is.long;
        count = omega (arith, more, fewer, is.count);
        some = omega (arith, more);
        empty = λ x. ap (λ p. page_byte p x) (get_or_left chunk.pages (page ∷ []) 0 _ is.some) ∙ is.empty x;
        within = λ i. by_equal i index
            (λ e. let at : get_or (slice_set chunk.places index (length chunk.pages)) i 0 ≡ length chunk.pages = ap (λ n. get_or (slice_set chunk.places index (length chunk.pages)) n 0) e ∙ here in omega (arith, at, more))
            (λ other. omega (arith, there i other, is.within i, more));
        apart = λ i j some same. by_equal i index
            (λ e. by_equal j index (λ f. e ∙ sym f)
            (λ other.
            let at : get_or (slice_set chunk.places index (length chunk.pages)) i 0 ≡ length chunk.pages = ap (λ n. get_or (slice_set chunk.places index (length chunk.pages)) n 0) e ∙ here in
            absurd (omega (arith, at, same, there j other, is.within j))))
            (λ other. by_equal j index
            (λ e.
            let at : get_or (slice_set chunk.places index (length chunk.pages)) j 0 ≡ length chunk.pages = ap (λ n. get_or (slice_set chunk.places index (length chunk.pages)) n 0) e ∙ here in
            absurd (omega (arith, at, same, there i other, is.within i)))
            (λ further. is.apart i j (omega (arith, some, there i other)) (sym (there i other) ∙ (same ∙ there j further))));
        words = length_set chunk.touched (index / 64) word ∙ is.words;
        marked = λ i h e. by_equal i index
            (λ same. let zero : bit_at (get_or marks (index / 64) 0) (index % 64) ≡ 0 = ap (λ k. bit_at (get_or marks (k / 64) 0) (k % 64)) (sym same) ∙ e in absurd (omega (arith, zero, own_mark)))
            (λ other. there i other ∙ is.marked i h (sym (other_marks i other) ∙ e));
      }

  module _ (place : ℕ) (pages : List Page) (is_place : place ≡ length chunk.pages) (are : pages ≡ chunk.pages ++ page ∷ []) where
    pub chunk_made : IsChunk (record { number = chunk.number; touched = slice_set chunk.touched (index / 64) (bit_or (get_or chunk.touched (index / 64) 0) (1 * 2 ^ (index % 64) % 2 ^ 64)); places = slice_set chunk.places index place; pages = pages })
    chunk_made = rw (is_place, are) chunk_new

-- where no page was made nothing is written
pub unplaced_byte : (chunk : ChunkSeen) → IsChunk chunk → (x : ℕ) → get_or chunk.places (x / 64) 0 ≡ 0 → chunk_byte chunk x ≡ None
unplaced_byte chunk is x e = ap (λ n. page_byte (page_at chunk.pages n) (x % 64)) e ∙ is.empty (x % 64)

-- ---- chunks by ascending number
pub rises_from : (floor limit : ℕ) (chunks : List ChunkSeen) (k : ℕ) → Rises floor limit chunks → k < length chunks → floor ≤ number_at chunks k
rises_from floor limit [] k rise h = absurd (omega arith)
rises_from floor limit (c ∷ chunks) zero rise h = rise.0
rises_from floor limit (c ∷ chunks) (suc k) rise h =
    let rest : c.number + 1 ≤ number_at chunks k = rises_from (c.number + 1) limit chunks k rise.1 (omega arith) in
    omega (arith, rest, rise.0)

rises_ends : (floor limit : ℕ) (chunks : List ChunkSeen) → Rises floor limit chunks → floor ≤ limit
rises_ends floor limit [] rise = rise
rises_ends floor limit (c ∷ chunks) rise = omega (arith, rise.0, rises_ends (c.number + 1) limit chunks rise.1)

pub rises_below : (floor limit : ℕ) (chunks : List ChunkSeen) (k : ℕ) → Rises floor limit chunks → k < length chunks → number_at chunks k < limit
rises_below floor limit [] k rise h = absurd (omega arith)
rises_below floor limit (c ∷ chunks) zero rise h = omega (arith, rises_ends (c.number + 1) limit chunks rise.1)
rises_below floor limit (c ∷ chunks) (suc k) rise h = rises_below (c.number + 1) limit chunks k rise.1 (omega arith)

pub rises_apart : (floor limit : ℕ) (chunks : List ChunkSeen) (i j : ℕ) → Rises floor limit chunks → i < j → j < length chunks → number_at chunks i < number_at chunks j
rises_apart floor limit [] i j rise h q = absurd (omega arith)
rises_apart floor limit (c ∷ chunks) i zero rise h q = absurd (omega arith)
rises_apart floor limit (c ∷ chunks) zero (suc j) rise h q = omega (arith, rises_from (c.number + 1) limit chunks j rise.1 (omega arith))
rises_apart floor limit (c ∷ chunks) (suc i) (suc j) rise h q = rises_apart (c.number + 1) limit chunks i j rise.1 (omega arith) (omega arith)

rises_more : (floor limit more : ℕ) (chunks : List ChunkSeen) → limit ≤ more → Rises floor limit chunks → Rises floor more chunks
rises_more floor limit more [] le rise = omega (arith, rise)
rises_more floor limit more (c ∷ chunks) le rise = (rise.0, rises_more (c.number + 1) limit more chunks le rise.1)

pub number_got : (chunks : List ChunkSeen) (place : ℕ) (chunk : ChunkSeen) → chunk ≡ get_or chunks place chunk → place < length chunks → number_at chunks place ≡ chunk.number
number_got [] place chunk is h = absurd (omega arith)
number_got (c ∷ chunks) zero chunk is h = ap (λ k. k.number) (sym is)
number_got (c ∷ chunks) (suc place) chunk is h = number_got chunks place chunk is (omega arith)

-- where the pages of the chunk at a place stand
pub page_got : (chunks : List ChunkSeen) (place index : ℕ) (chunk : ChunkSeen) → chunk ≡ get_or chunks place chunk → place < length chunks → page_place chunks place index ≡ get_or chunk.places index 0
page_got [] place index chunk is h = absurd (omega arith)
page_got (c ∷ chunks) zero index chunk is h = ap (λ k. get_or k.places index 0) (sym is)
page_got (c ∷ chunks) (suc place) index chunk is h = page_got chunks place index chunk is (omega arith)

-- the chunk that stands at a place is found by its number
pub standing : (floor limit : ℕ) (chunks : List ChunkSeen) (place number : ℕ) (chunk : ChunkSeen) → Rises floor limit chunks → StandsAt chunks place number
    → chunk ≡ get_or chunks place chunk → chunk_of chunks number ≡ Some chunk
standing floor limit [] place number chunk rise stands is = absurd (omega (arith, stands.0))
standing floor limit (c ∷ chunks) zero number chunk rise stands is = rw (same_test c.number number stands.1) (ap Some (sym is))
standing floor limit (c ∷ chunks) (suc place) number chunk rise stands is =
    let after : c.number + 1 ≤ number_at chunks place = rises_from (c.number + 1) limit chunks place rise.1 (omega (arith, stands.0)) in
    let apart : c.number ≢ number = λ e. absurd (omega (arith, after, stands.1)) in
    rw (other_test c.number number apart) (standing (c.number + 1) limit chunks place number chunk rise.1 (omega (arith, stands.0), stands.1) is)

pub missing : (chunks : List ChunkSeen) (number : ℕ) → PlaceOf chunks number None → chunk_of chunks number ≡ None
missing [] number none = refl
missing (c ∷ chunks) number none =
    rw (other_test c.number number (none 0 (omega arith))) (missing chunks number (λ k h. none (suc k) (omega arith)))

-- a chunk is changed
pub number_set : (chunks : List ChunkSeen) (place k : ℕ) (new : ChunkSeen) → new.number ≡ number_at chunks place → place < length chunks → number_at (slice_set chunks place new) k ≡ number_at chunks k
number_set [] place k new e h = refl
number_set (c ∷ chunks) zero zero new e h = e
number_set (c ∷ chunks) zero (suc k) new e h = refl
number_set (c ∷ chunks) (suc place) zero new e h = refl
number_set (c ∷ chunks) (suc place) (suc k) new e h = number_set chunks place k new e (omega arith)

rises_set : (floor limit : ℕ) (chunks : List ChunkSeen) (place : ℕ) (new : ChunkSeen) → Rises floor limit chunks → place < length chunks → new.number ≡ number_at chunks place
    → Rises floor limit (slice_set chunks place new)
rises_set floor limit [] place new rise h e = rise
rises_set floor limit (c ∷ chunks) zero new rise h e = (subst (λ n. floor ≤ n) (sym e) rise.0, subst (λ n. Rises (n + 1) limit chunks) (sym e) rise.1)
rises_set floor limit (c ∷ chunks) (suc place) new rise h e = (rise.0, rises_set (c.number + 1) limit chunks place new rise.1 (omega arith) e)

others_set : (chunks : List ChunkSeen) (place number : ℕ) (new : ChunkSeen) → new.number ≡ number_at chunks place → number ≢ new.number
    → chunk_of (slice_set chunks place new) number ≡ chunk_of chunks number
others_set [] place number new e other = refl
others_set (c ∷ chunks) zero number new e other =
    let apart : c.number ≢ number = λ f. other (sym (e ∙ f)) in
    rw (other_test new.number number (λ f. other (sym f)), other_test c.number number apart) refl
others_set (c ∷ chunks) (suc place) number new e other =
    ap (λ o. if c.number == number then Some c else o) (others_set chunks place number new e other)

module _ (chunks : List ChunkSeen) (last last_number begin limit place : ℕ) (old new : ChunkSeen) (is : IsWritten chunks last last_number begin limit)
    (inside : place < length chunks) (was : old ≡ get_or chunks place old) (same : new.number ≡ old.number) where
  number_is : new.number ≡ number_at chunks place
  number_is = same ∙ sym (number_got chunks place old was inside)

  pub written_set : IsWritten (slice_set chunks place new) last last_number begin limit
  written_set = record {
    rises = rises_set 0 limit chunks place new is.rises inside number_is;
    begins = λ k h. subst (λ n. begin ≤ n) (sym (number_set chunks place k new number_is inside)) (is.begins k (omega (arith, length_set chunks place new, h)));
    few = is.few;
    last_is = λ small. (
      omega (arith, length_set chunks place new, (is.last_is small).0),
      number_set chunks place last new number_is inside ∙ (is.last_is small).1,
    );
  }

  pub new_found : (number : ℕ) → number_at chunks place ≡ number → chunk_of (slice_set chunks place new) number ≡ Some new
  new_found number e =
      standing 0 limit (slice_set chunks place new) place number new written_set.rises
      (omega (arith, length_set chunks place new, inside), number_set chunks place place new number_is inside ∙ e)
      (sym (get_or_set_same chunks place new new inside))

  pub others_found : (number : ℕ) → number_at chunks place ≡ number → (n : ℕ) → n ≢ number → chunk_of (slice_set chunks place new) n ≡ chunk_of chunks n
  others_found number e n other = others_set chunks place n new number_is (λ f. other (f ∙ (number_is ∙ e)))

-- a chunk is put in
others_in : (chunks : List ChunkSeen) (place number : ℕ) (new : ChunkSeen) → number ≢ new.number → chunk_of (insert chunks place new) number ≡ chunk_of chunks number
others_in chunks zero number new other = rw (other_test new.number number (λ f. other (sym f))) refl
others_in [] (suc place) number new other = rw (other_test new.number number (λ f. other (sym f))) refl
others_in (c ∷ chunks) (suc place) number new other = ap (λ o. if c.number == number then Some c else o) (others_in chunks place number new other)

found_in : (chunks : List ChunkSeen) (place number : ℕ) (new : ChunkSeen) → PlaceOf chunks number None → new.number ≡ number → chunk_of (insert chunks place new) number ≡ Some new
found_in chunks zero number new none e = rw (same_test new.number number e) refl
found_in [] (suc place) number new none e = rw (same_test new.number number e) refl
found_in (c ∷ chunks) (suc place) number new none e =
    rw (other_test c.number number (none 0 (omega arith))) (found_in chunks place number new (λ k h. none (suc k) (omega arith)) e)

rises_in : (floor limit : ℕ) (chunks : List ChunkSeen) (place number : ℕ) (new : ChunkSeen) → Rises floor limit chunks → place ≤ length chunks
    → ((k : ℕ) → k < place → number_at chunks k < number) → ((k : ℕ) → place ≤ k → k < length chunks → number < number_at chunks k) → new.number ≡ number → floor ≤ number
    → Rises floor (max limit (number + 1)) (insert chunks place new)
rises_in floor limit [] zero number new rise le less more e from = (omega arith, omega arith)
rises_in floor limit [] (suc place) number new rise le less more e from = absurd (omega arith)
rises_in floor limit (c ∷ chunks) zero number new rise le less more e from =
    let behind : number < c.number = more 0 (omega arith) (omega arith) in
    (omega arith, (omega arith, rises_more (c.number + 1) limit (max limit (number + 1)) chunks (omega arith) rise.1))
rises_in floor limit (c ∷ chunks) (suc place) number new rise le less more e from =
    let before : c.number < number = less 0 (omega arith) in
    (rise.0, rises_in (c.number + 1) limit chunks place number new rise.1 (omega arith) (λ k h. less (suc k) (omega arith)) (λ k h q. more (suc k) (omega arith) (omega arith)) e (omega arith))

from_in : (chunks : List ChunkSeen) (place : ℕ) (new : ChunkSeen) (floor : ℕ) → ((k : ℕ) → k < length chunks → floor ≤ number_at chunks k) → floor ≤ new.number
    → (k : ℕ) → k < length (insert chunks place new) → floor ≤ number_at (insert chunks place new) k
from_in chunks zero new floor from here zero h = here
from_in chunks zero new floor from here (suc k) h = from k (omega arith)
from_in [] (suc place) new floor from here zero h = here
from_in [] (suc place) new floor from here (suc k) h = absurd (omega arith)
from_in (c ∷ chunks) (suc place) new floor from here zero h = from 0 (omega arith)
from_in (c ∷ chunks) (suc place) new floor from here (suc k) h = from_in chunks place new floor (λ j q. from (suc j) (omega arith)) here k (omega arith)

number_in : (chunks : List ChunkSeen) (place : ℕ) (new : ChunkSeen) → place ≤ length chunks → (place < length (insert chunks place new)) × (number_at (insert chunks place new) place ≡ new.number)
number_in chunks zero new le = (omega arith, refl)
number_in [] (suc place) new le = absurd (omega arith)
number_in (c ∷ chunks) (suc place) new le =
    let rest = number_in chunks place new (omega arith) in
    (omega (arith, rest.0), rest.1)

module _ (chunks : List ChunkSeen) (last last_number begin limit number place : ℕ) (new : ChunkSeen) (is : IsWritten chunks last last_number begin limit) (few : number < 2 ^ 51)
    (parts : Parts chunks number place) (none : PlaceOf chunks number None) (named : new.number ≡ number) where
  pub stands_in : StandsAt (insert chunks place new) place number
  stands_in = let at = number_in chunks place new parts.within in (at.0, at.1 ∙ named)

  pub written_in : IsWritten (insert chunks place new) place number (min begin number) (max limit (number + 1))
  written_in = record {
    rises = rises_in 0 limit chunks place number new is.rises parts.within parts.before
        (λ k p q. let le : number ≤ number_at chunks k = parts.behind k p q in let other : number_at chunks k ≢ number = none k q in omega arith) named (omega arith);
    begins = from_in chunks place new (min begin number) (λ k h. omega (arith, is.begins k h)) (omega (arith, named));
    few = omega (arith, is.few);
    last_is = λ small. stands_in;
  }

  pub bytes_in : ((x : ℕ) → chunk_byte new x ≡ None) → (x : ℕ) → byte_at (insert chunks place new) x ≡ byte_at chunks x
  bytes_in empty x = by_equal (x / 2 ^ 13) number
      (λ e.
      at_known chunk_byte (2 ^ 13) size_chunk (chunk_of (insert chunks place new)) new x (ap (chunk_of (insert chunks place new)) e ∙ found_in chunks place number new none named)
      ∙ (empty (x % 2 ^ 13) ∙ sym (at_unknown chunk_byte (2 ^ 13) size_chunk (chunk_of chunks) x (ap (chunk_of chunks) e ∙ missing chunks number none))))
      (λ other. ap (option_and_then (λ c. chunk_byte c (x % 2 ^ 13))) (others_in chunks place (x / 2 ^ 13) new (λ e. other (e ∙ named))))

module _ (value chunks : List ChunkSeen) (view : chunks ≡ value) (last last_number begin limit number place : ℕ) (new : ChunkSeen) (is : IsWritten chunks last last_number begin limit) (few : number < 2 ^ 51)
    (parts : Parts value number place) (none : PlaceOf value number None) (named : new.number ≡ number) (items : List ChunkSeen) (are : items ≡ insert chunks place new) where
  parts_before : Parts chunks number place
  parts_before = subst (λ v. Parts v number place) (sym view) parts

  none_before : PlaceOf chunks number None
  none_before = subst (λ v. PlaceOf v number None) (sym view) none

  pub made_kept : (first behind : ℕ) → first ≡ min begin number → behind ≡ max limit (number + 1) → IsWritten items place number first behind
  made_kept first behind a b = rw (are, a, b) (written_in chunks last last_number begin limit number place new is few parts_before none_before named)

  pub made_bytes : ((x : ℕ) → chunk_byte new x ≡ None) → (x : ℕ) → byte_at items x ≡ byte_at value x
  made_bytes empty x =
      ap (λ v. byte_at v x) are
      ∙ (bytes_in chunks last last_number begin limit number place new is few parts_before none_before named empty x ∙ ap (λ v. byte_at v x) view)

  pub made_stands : StandsAt items place number
  made_stands = subst (λ v. StandsAt v place number) (sym are) (stands_in chunks last last_number begin limit number place new is few parts_before none_before named)

-- ---- where a chunk stands
pub place_past : (chunks : List ChunkSeen) (last last_number begin limit number : ℕ) → IsWritten chunks last last_number begin limit → limit ≤ number → PlaceOf chunks number None
place_past chunks last last_number begin limit number is past = λ k h e. absurd (omega (arith, rises_below 0 limit chunks k is.rises h, e))

-- no chunk of a number stands anywhere that is so far before all, or behind them
pub apart_before : (chunks : List ChunkSeen) (last last_number begin limit number : ℕ) → IsWritten chunks last last_number begin limit → number + 1 < begin → IsApart chunks number
apart_before chunks last last_number begin limit number is less =
    (λ k h e. absurd (omega (arith, is.begins k h, e, less)), λ k h e. absurd (omega (arith, is.begins k h, e, less)))

pub apart_behind : (chunks : List ChunkSeen) (last last_number begin limit number : ℕ) → IsWritten chunks last last_number begin limit → limit ≤ number → IsApart chunks number
apart_behind chunks last last_number begin limit number is more =
    (place_past chunks last last_number begin limit number is more, place_past chunks last last_number begin limit (number + 1) is (omega (arith, more)))

pub place_missed : (chunks : List ChunkSeen) (last last_number begin limit number place : ℕ) → IsWritten chunks last last_number begin limit → Parts chunks number place
    → (place < length chunks → number_at chunks place ≢ number) → PlaceOf chunks number None
place_missed chunks last last_number begin limit number place is parts missed = λ k h e. at k h e (cases_lt k place) (cases_lt place k)
  where
    at : (k : ℕ) → k < length chunks → number_at chunks k ≡ number → (k < place) ⊎ (place ≤ k) → (place < k) ⊎ (k ≤ place) → ⊥
    at k h e (inl p) q = absurd (omega (arith, parts.before k p, e))
    at k h e (inr p) (inl q) = absurd (omega (arith, rises_apart 0 limit chunks place k is.rises q h, parts.behind place (omega arith) (omega arith), e))
    at k h e (inr p) (inr q) = let f : k ≡ place = omega arith in missed (omega arith) (sym (ap (number_at chunks) f) ∙ e)

-- the number of a chunk that is there
number_or : (chunks : List ChunkSeen) (k : ℕ) (d : ChunkSeen) → k < length chunks → number_at chunks k ≡ (get_or chunks k d).number
number_or [] k d h = absurd (omega arith)
number_or (c ∷ chunks) zero d h = refl
number_or (c ∷ chunks) (suc k) d h = number_or chunks k d (omega arith)

pub numbers_rise : (floor limit : ℕ) (chunks : List ChunkSeen) → Rises floor limit chunks → IsNonDecreasingBy (λ (chunk : ChunkSeen). chunk.number) chunks
numbers_rise floor limit chunks rise i j d le lt = at (cases_lt i j)
  where
    at : (i < j) ⊎ (j ≤ i) → (get_or chunks i d).number ≤ (get_or chunks j d).number
    at (inl p) = omega (arith, number_or chunks i d (omega arith), number_or chunks j d lt, rises_apart floor limit chunks i j rise p lt)
    at (inr p) = let e : i ≡ j = omega arith in omega (arith, ap (λ k. (get_or chunks k d).number) e)

no_chunk : ChunkSeen
no_chunk = record { number = 0; touched = []; places = []; pages = [] }

pub parts_of : (chunks : List ChunkSeen) (number place : ℕ) → place ≤ length chunks
    → IsPartitionPoint (λ (chunk : ChunkSeen). ltb chunk.number number ≡ true) (λ chunk. ltb chunk.number number ≡ false) chunks place → Parts chunks number place
parts_of chunks number place le point = record {
  within = le;
  before = λ k h. omega (arith, number_or chunks k no_chunk (omega arith), ltb-true _ _ (point.0 k no_chunk (omega arith) h));
  behind = λ k p h. omega (arith, number_or chunks k no_chunk h, ltb-false _ _ (point.1 k no_chunk p h));
}

module _ (value chunks : List ChunkSeen) (view : chunks ≡ value) (last last_number begin limit : ℕ) (is : IsWritten chunks last last_number begin limit) (number : ℕ) where
  pub place_more : limit ≤ number → PlaceOf value number None
  place_more more = subst (λ v. PlaceOf v number None) view (place_past chunks last last_number begin limit number is more)

  pub found_at : (place : ℕ) (chunk : ChunkSeen) → chunk ≡ get_or chunks place chunk → place < length chunks → chunk.number ≡ number → StandsAt value place number
  found_at place chunk was inside e = subst (λ v. StandsAt v place number) view (inside, number_got chunks place chunk was inside ∙ e)

  module _ (place : ℕ) (parts : Parts value number place) where
    parts_here : Parts chunks number place
    parts_here = subst (λ v. Parts v number place) (sym view) parts

    module _ (chunk : ChunkSeen) (was : chunk ≡ get_or chunks place chunk) (inside : place < length chunks) where
      pub missed_other : chunk.number ≢ number → PlaceOf value number None
      missed_other other =
          subst (λ v. PlaceOf v number None) view
          (place_missed chunks last last_number begin limit number place is parts_here (λ h e. other (sym (number_got chunks place chunk was inside) ∙ e)))

-- ---- runs
-- the number behind that of the chunk before a place
abbrev pub floor_of : ℕ → List ChunkSeen → ℕ → ℕ
floor_of floor [] place = floor
floor_of floor (c ∷ chunks) zero = floor
floor_of floor (c ∷ chunks) (suc place) = floor_of (c.number + 1) chunks place

floor_first : (floor : ℕ) (chunks : List ChunkSeen) → floor_of floor chunks 0 ≡ floor
floor_first floor [] = refl
floor_first floor (c ∷ chunks) = refl

floor_next : (floor : ℕ) (chunks : List ChunkSeen) (place : ℕ) → place < length chunks → floor_of floor chunks (suc place) ≡ number_at chunks place + 1
floor_next floor [] place h = absurd (omega arith)
floor_next floor (c ∷ chunks) zero h = floor_first (c.number + 1) chunks
floor_next floor (c ∷ chunks) (suc place) h = floor_next (c.number + 1) chunks place (omega arith)

floor_before : (floor limit : ℕ) (chunks : List ChunkSeen) (place : ℕ) → Rises floor limit chunks → place < length chunks → floor_of floor chunks place ≤ number_at chunks place
floor_before floor limit [] place rise h = absurd (omega arith)
floor_before floor limit (c ∷ chunks) zero rise h = rise.0
floor_before floor limit (c ∷ chunks) (suc place) rise h = floor_before (c.number + 1) limit chunks place rise.1 (omega arith)

floor_within : (floor limit : ℕ) (chunks : List ChunkSeen) (place : ℕ) → Rises floor limit chunks → (floor ≤ floor_of floor chunks place) × (floor_of floor chunks place ≤ limit)
floor_within floor limit [] place rise = (omega arith, rise)
floor_within floor limit (c ∷ chunks) zero rise = (omega arith, rises_ends floor limit (c ∷ chunks) rise)
floor_within floor limit (c ∷ chunks) (suc place) rise =
    let rest = floor_within (c.number + 1) limit chunks place rise.1 in
    (omega (arith, rest.0, rise.0), rest.1)

-- no chunk has a number between
between : (floor limit : ℕ) (chunks : List ChunkSeen) (place number : ℕ) → Rises floor limit chunks → floor_of floor chunks place ≤ number → (place < length chunks → number < number_at chunks place)
    → chunk_of chunks number ≡ None
between floor limit [] place number rise from less = refl
between floor limit (c ∷ chunks) zero number rise from less =
    missing (c ∷ chunks) number (λ k h e. at k h e)
  where
    at : (k : ℕ) → k < length (c ∷ chunks) → number_at (c ∷ chunks) k ≡ number → ⊥
    at zero h e = absurd (omega (arith, less (omega arith), e))
    at (suc k) h e = absurd (omega (arith, rises_apart floor limit (c ∷ chunks) 0 (suc k) rise (omega arith) h, less (omega arith), e))
between floor limit (c ∷ chunks) (suc place) number rise from less =
    let behind : c.number + 1 ≤ floor_of (c.number + 1) chunks place = (floor_within (c.number + 1) limit chunks place rise.1).0 in
    rw (other_test c.number number (λ e. absurd (omega (arith, behind, from, e))))
    (between (c.number + 1) limit chunks place number rise.1 from (λ h. less (omega arith)))

pub told_chunk : (chunks : List ChunkSeen) (limit place : ℕ) (chunk : ChunkSeen) (before new : List WrittenRange) → Rises 0 limit chunks → place < length chunks → chunk ≡ get_or chunks place chunk
    → Told (byte_at chunks) (floor_of 0 chunks place * 2 ^ 13) before → Gathers (chunk.number * 2 ^ 13) (2 ^ 13) (chunk_byte chunk) (2 ^ 13) before new
    → Told (byte_at chunks) (floor_of 0 chunks (place + 1) * 2 ^ 13) new
told_chunk chunks limit place chunk before new rise inside is told gathers =
    let name : number_at chunks place ≡ chunk.number = number_got chunks place chunk is inside in
    let from : floor_of 0 chunks place ≤ number_at chunks place = floor_before 0 limit chunks place rise inside in
    let found : chunk_of chunks chunk.number ≡ Some chunk = standing 0 limit chunks place chunk.number chunk rise (inside, name) is in
    let next : suc place ≡ place + 1 = omega arith in
    let behind : floor_of 0 chunks (place + 1) ≡ chunk.number + 1 = sym (ap (floor_of 0 chunks) next) ∙ (floor_next 0 chunks place inside ∙ ap (λ n. n + 1) name) in
    let skipped : Told (byte_at chunks) (chunk.number * 2 ^ 13) before =
    told_skipped (byte_at chunks) (floor_of 0 chunks place * 2 ^ 13) (chunk.number * 2 ^ 13) before (omega arith)
    (λ x p q. at_unknown chunk_byte (2 ^ 13) size_chunk (chunk_of chunks) x (between 0 limit chunks place (x / 2 ^ 13) rise (omega arith) (λ h. omega arith))) told in
    told_at (byte_at chunks) (chunk.number * 2 ^ 13 + 2 ^ 13) (floor_of 0 chunks (place + 1) * 2 ^ 13) new (omega arith)
    (gathers (byte_at chunks) skipped
    (λ x p.
    let home : (chunk.number * 2 ^ 13 + x) / 2 ^ 13 ≡ chunk.number = size_chunk.within chunk.number x p in
    at_known chunk_byte (2 ^ 13) size_chunk (chunk_of chunks) chunk (chunk.number * 2 ^ 13 + x) (ap (chunk_of chunks) home ∙ found)
    ∙ ap (chunk_byte chunk) (size_chunk.place chunk.number x p)))

pub nothing_behind : (chunks : List ChunkSeen) (limit place : ℕ) → Rises 0 limit chunks → length chunks ≤ place → (x : ℕ) → floor_of 0 chunks place * 2 ^ 13 ≤ x → byte_at chunks x ≡ None
nothing_behind chunks limit place rise done x p =
    at_unknown chunk_byte (2 ^ 13) size_chunk (chunk_of chunks) x (between 0 limit chunks place (x / 2 ^ 13) rise (omega arith) (λ h. absurd (omega arith)))

pub floor_few : (chunks : List ChunkSeen) (limit place : ℕ) → Rises 0 limit chunks → limit ≤ 2 ^ 51 → floor_of 0 chunks place * 2 ^ 13 ≤ 2 ^ 64
floor_few chunks limit place rise few = omega (arith, (floor_within 0 limit chunks place rise).1, few)

module _ (value chunks : List ChunkSeen) (view : chunks ≡ value) (last last_number begin limit : ℕ) (is : IsWritten chunks last last_number begin limit) where
  rise_here : Rises 0 limit value
  rise_here = subst (λ v. Rises 0 limit v) view is.rises

  module _ (place : ℕ) (chunk : ChunkSeen) (inside : place < length value) (was : chunk ≡ get_or chunks place chunk) where
    pub number_few : chunk.number < 2 ^ 51
    number_few =
        let here : place < length chunks = omega (arith, inside, ap length view) in
        omega (arith, rises_below 0 limit chunks place is.rises here, number_got chunks place chunk was here, is.few)

    -- the runs of one chunk more
    pub told_more : (number : ℕ) (before new : List WrittenRange) → number ≡ chunk.number → Told (byte_at value) (floor_of 0 value place * 2 ^ 13) before
        → Gathers (number * 2 ^ 13) (2 ^ 13) (chunk_byte chunk) (2 ^ 13) before new → Told (byte_at value) (floor_of 0 value (place + 1) * 2 ^ 13) new
    told_more number before new e told gathers =
        told_chunk value limit place chunk before new rise_here inside (was ∙ ap (λ xs. get_or xs place chunk) view) told
        (subst (λ n. Gathers (n * 2 ^ 13) (2 ^ 13) (chunk_byte chunk) (2 ^ 13) before new) e gathers)

  -- the runs of all chunks
  module _ (place : ℕ) (runs : List WrittenRange) (done : length value ≤ place) (told : Told (byte_at value) (floor_of 0 value place * 2 ^ 13) runs) where
    pub all_told : AreRuns (byte_at value) runs
    all_told = told_runs (byte_at value) (floor_of 0 value place * 2 ^ 13) runs told (nothing_behind value limit place rise_here done)

    pub all_value : runs ≡ runs_of (byte_at value)
    all_value = told_all (byte_at value) (floor_of 0 value place * 2 ^ 13) runs (floor_few value limit place rise_here is.few) (nothing_behind value limit place rise_here done) told

pub told_begun : (chunks : List ChunkSeen) → Told (byte_at chunks) (floor_of 0 chunks 0 * 2 ^ 13) []
told_begun chunks = subst (λ n. Told (byte_at chunks) (n * 2 ^ 13) []) (sym (floor_first 0 chunks)) (told_nothing (byte_at chunks))

-- ---- what is read of one chunk
got : {X : Type 0} (xs : List X) (i : ℕ) (x d : X) → x ≡ get_or xs i x → i < length xs → get_or xs i d ≡ x
got [] i x d is h = absurd (omega arith)
got (y ∷ xs) zero x d is h = sym is
got (y ∷ xs) (suc i) x d is h = got xs i x d is (omega arith)

module _ (value chunk : ChunkSeen) (view : chunk ≡ value) (is : IsChunk chunk) (a : ℕ) (page : Page) (was : page ≡ get_or chunk.pages (get_or chunk.places (a / 64) 0) page) where
  pub page_known : page_of chunk (a / 64) ≡ Some page
  page_known = ap Some (got chunk.pages (get_or chunk.places (a / 64) 0) page _ was (is.within (a / 64)))

  pub chunk_read : (below : List ℕ) (read : Option ℕ) → a % 64 + length below ≤ 64 → or_below read below ≡ seen_number (page_byte page) (a % 64) below
      → or_below read below ≡ seen_number (chunk_byte value) a below
  chunk_read below read fits change =
      subst (λ v. or_below read below ≡ seen_number (chunk_byte v) a below) view
      (level_read page_byte 64 size_64 (page_of chunk) a page below read fits page_known change)

  pub chunk_whole : (size number : ℕ) → a % 64 + size ≤ 64 → IsWhole (page_byte page) (a % 64) size number → IsWhole (chunk_byte value) a size number
  chunk_whole size number fits whole below long = chunk_read below (Some number) (omega (arith, fits, long)) (whole below long)

  -- a page in which a byte is written isn't the empty one
  pub chunk_own : page_byte page (a % 64) ≢ None → 0 < get_or chunk.places (a / 64) 0
  chunk_own some = elim (cases_lt 0 (get_or chunk.places (a / 64) 0)) [
    | inl own ↦ own
    | inr none ↦
        let zero_place : get_or chunk.places (a / 64) 0 ≡ 0 = omega (arith, none) in
        let known : page_at chunk.pages (get_or chunk.places (a / 64) 0) ≡ page = got chunk.pages (get_or chunk.places (a / 64) 0) page _ was (is.within (a / 64)) in
        absurd (some (ap (λ p. page_byte p (a % 64)) (sym known) ∙ (ap (λ n. page_byte (page_at chunk.pages n) (a % 64)) zero_place ∙ is.empty (a % 64))))
  ]

  pub chunk_loaded : (old new : List ℕ) → a % 64 + length old ≤ 64 → new ≡ seen (page_byte page) (a % 64) old → new ≡ seen (chunk_byte value) a old
  chunk_loaded old new fits change =
      subst (λ v. new ≡ seen (chunk_byte v) a old) view (change ∙ seen_block page_byte 64 size_64 (page_of chunk) a page old fits page_known)

  module _ (new : Page) (own : 0 < get_or chunk.places (a / 64) 0) where
    pub chunk_laid : (bytes : List ℕ) → a % 64 + length bytes ≤ 64 → ((y : ℕ) → page_byte new y ≡ laid (page_byte page) (a % 64) bytes y)
        → (x : ℕ) → chunk_byte (with_page chunk (get_or chunk.places (a / 64) 0) new) x ≡ laid (chunk_byte value) a bytes x
    chunk_laid bytes fits change x =
        subst (λ v. chunk_byte (with_page chunk (get_or chunk.places (a / 64) 0) new) x ≡ laid (chunk_byte v) a bytes x) view
        (level_stored page_byte 64 size_64 (page_of chunk) (page_of (with_page chunk (get_or chunk.places (a / 64) 0) new)) a page new page_known
        (page_changed chunk is (a / 64) new own) (pages_kept chunk is (a / 64) new own) bytes fits change x)

-- bytes are laid over the page that was made for them
module _ (value chunk : ChunkSeen) (view : chunk ≡ value) (is : IsChunk chunk) (a place : ℕ) (named : get_or value.places (a / 64) 0 ≡ place) (own : 0 < place) (new : Page) where
  page_stands : get_or chunk.places (a / 64) 0 ≡ place
  page_stands = ap (λ v. get_or v.places (a / 64) 0) view ∙ named

  pub chunk_stored : (before : ChunkSeen) → ((x : ℕ) → chunk_byte value x ≡ chunk_byte before x) → (old : Page) → old ≡ get_or chunk.pages place old
      → (bytes : List ℕ) → a % 64 + length bytes ≤ 64 → ((y : ℕ) → page_byte new y ≡ laid (page_byte old) (a % 64) bytes y)
      → (x : ℕ) → chunk_byte (with_page chunk place new) x ≡ laid (chunk_byte before) a bytes x
  chunk_stored before same old was bytes fits change x =
      subst (λ p. chunk_byte (with_page chunk p new) x ≡ laid (chunk_byte before) a bytes x) page_stands
      (chunk_laid value chunk view is a old (subst (λ p. old ≡ get_or chunk.pages p old) (sym page_stands) was) new (subst (λ p. 0 < p) (sym page_stands) own) bytes fits change x
      ∙ laid_same (chunk_byte value) (chunk_byte before) a bytes x (same x))

-- ---- the runs of the pages of a chunk
run_few : (mask place first end : ℕ) → NextRun mask place first end → first ≤ 64
run_few mask place first end run = at run.some
  where
    at : (first < end) ⊎ (first ≡ 64) → first ≤ 64
    at (inl p) = omega (arith, p, run.ends)
    at (inr e) = omega (arith, e)

module _ (value chunk : ChunkSeen) (view : chunk ≡ value) (is : IsChunk chunk) where
  -- where no bit is set there is no page
  pub none_low : (index first end : ℕ) → NextRun (get_or chunk.touched 0 0) index first end → (i : ℕ) → index ≤ i → i < first → get_or value.places i 0 ≡ 0
  none_low index first end run i p q =
      let few : first ≤ 64 = run_few (get_or chunk.touched 0 0) index first end run in
      let half : i / 64 ≡ 0 = omega arith in
      let rest : i % 64 ≡ i = omega arith in
      ap (λ v. get_or v.places i 0) (sym view)
      ∙ is.marked i (omega arith) (ap (λ k. bit_at (get_or chunk.touched k 0) (i % 64)) half ∙ (ap (bit_at (get_or chunk.touched 0 0)) rest ∙ run.clear i p q))

  pub none_high : (index first end : ℕ) → NextRun (get_or chunk.touched 1 0) index first end → (i : ℕ) → 64 + index ≤ i → i < 64 + first → get_or value.places i 0 ≡ 0
  none_high index first end run i p q =
      let few : first ≤ 64 = run_few (get_or chunk.touched 1 0) index first end run in
      let half : i / 64 ≡ 1 = omega arith in
      let rest : i % 64 ≡ i - 64 = omega arith in
      ap (λ v. get_or v.places i 0) (sym view)
      ∙ is.marked i (omega arith)
      (ap (λ k. bit_at (get_or chunk.touched k 0) (i % 64)) half ∙ (ap (bit_at (get_or chunk.touched 1 0)) rest ∙ run.clear (i - 64) (omega arith) (omega arith)))

  -- no page from one number on and below another
  pub pages_skipped : (base from next : ℕ) (before runs : List WrittenRange) → from ≤ next → next ≤ 128 → ((i : ℕ) → from ≤ i → i < next → get_or value.places i 0 ≡ 0)
      → Gathers base (2 ^ 13) (chunk_byte value) (from * 64) before runs → Gathers base (2 ^ 13) (chunk_byte value) (next * 64) before runs
  pages_skipped base from next before runs le few none so_far =
      gathers_gap base (2 ^ 13) (from * 64) (next * 64) (chunk_byte value) before runs so_far (omega arith) (omega arith)
      (λ x p q. ap (λ v. chunk_byte v x) (sym view) ∙ unplaced_byte chunk is x (ap (λ v. get_or v.places (x / 64) 0) view ∙ none (x / 64) (omega arith) (omega arith)))

pub pages_more : (value chunk : ChunkSeen) → chunk ≡ value → IsChunk chunk → (base index : ℕ) (page : Page) (before runs new : List WrittenRange)
    → page ≡ get_or chunk.pages (get_or chunk.places index 0) page → index < 128 → Gathers base (2 ^ 13) (chunk_byte value) (index * 64) before runs
    → Gathers (base + index * 64) 64 (page_byte page) 64 runs new → Gathers base (2 ^ 13) (chunk_byte value) ((index + 1) * 64) before new
pages_more value chunk view is base index page before runs new was few so_far more =
    gathers_block page_byte 64 size_64 base (2 ^ 13) (page_of value) index page before runs new
    (ap (λ v. page_of v index) (sym view) ∙ ap Some (got chunk.pages (get_or chunk.places index 0) page _ was (is.within index)))
    (omega arith) so_far more

-- ---- what is read of all chunks
module _ (value chunks : List ChunkSeen) (view : chunks ≡ value) (last last_number begin limit : ℕ) (is : IsWritten chunks last last_number begin limit) (a : ℕ) where
  module _ (place : ℕ) (chunk : ChunkSeen) (stands : StandsAt value place (a / 2 ^ 13)) (was : chunk ≡ get_or chunks place chunk) where
    stands_here : StandsAt chunks place (a / 2 ^ 13)
    stands_here = subst (λ v. StandsAt v place (a / 2 ^ 13)) (sym view) stands

    chunk_known : chunk_of chunks (a / 2 ^ 13) ≡ Some chunk
    chunk_known = standing 0 limit chunks place (a / 2 ^ 13) chunk is.rises stands_here was

    pub written_read : (below : List ℕ) (read : Option ℕ) → a % 64 + length below ≤ 64 → or_below read below ≡ seen_number (chunk_byte chunk) (a % 2 ^ 13) below
        → or_below read below ≡ seen_number (byte_at value) a below
    written_read below read fits change =
        subst (λ v. or_below read below ≡ seen_number (byte_at v) a below) view
        (level_read chunk_byte (2 ^ 13) size_chunk (chunk_of chunks) a chunk below read (omega arith) chunk_known change)

    pub written_number : (size number : ℕ) → a % 64 + size ≤ 64 → IsWhole (chunk_byte chunk) (a % 2 ^ 13) size number → IsWhole (byte_at value) a size number
    written_number size number fits whole below long = written_read below (Some number) (omega (arith, fits, long)) (whole below long)

    pub written_page : (page : ℕ) → get_or chunk.places (a % 2 ^ 13 / 64) 0 ≡ page → 0 < page → IsPage value a place page
    written_page page at own = record {
      stands = stands;
      is = page_got value place (a % 2 ^ 13 / 64) chunk (was ∙ ap (λ xs. get_or xs place chunk) view) stands.0 ∙ at;
      own = own;
    }

    pub page_found : (page : ℕ) → IsPage value a place page → get_or chunk.places (a % 2 ^ 13 / 64) 0 ≡ page
    page_found page known = sym (page_got value place (a % 2 ^ 13 / 64) chunk (was ∙ ap (λ xs. get_or xs place chunk) view) stands.0) ∙ known.is

    pub written_loaded : (old new : List ℕ) → a % 64 + length old ≤ 64 → new ≡ seen (chunk_byte chunk) (a % 2 ^ 13) old → new ≡ seen (byte_at value) a old
    written_loaded old new fits change =
        subst (λ v. new ≡ seen (byte_at v) a old) view (change ∙ seen_block chunk_byte (2 ^ 13) size_chunk (chunk_of chunks) a chunk old (omega arith) chunk_known)

    module _ (new : ChunkSeen) (same : new.number ≡ chunk.number) where
      pub written_whole : IsWritten (slice_set chunks place new) last last_number begin limit
      written_whole = written_set chunks last last_number begin limit place chunk new is stands_here.0 was same

      pub written_over : (low : List ℕ) (done : Bool) → a % 64 + length low ≤ 64 → ((y : ℕ) → chunk_byte new y ≡ laid_if done (chunk_byte chunk) (a % 2 ^ 13) low y)
          → (x : ℕ) → byte_at (slice_set chunks place new) x ≡ laid_if done (byte_at value) a low x
      written_over low done fits change x =
          subst (λ v. byte_at (slice_set chunks place new) x ≡ laid_if done (byte_at v) a low x) view
          (level_overwritten chunk_byte (2 ^ 13) size_chunk (chunk_of chunks) (chunk_of (slice_set chunks place new)) a chunk new chunk_known
          (new_found chunks last last_number begin limit place chunk new is stands_here.0 was same (a / 2 ^ 13) stands_here.1)
          (others_found chunks last last_number begin limit place chunk new is stands_here.0 was same (a / 2 ^ 13) stands_here.1) low done (omega arith) change x)

  module _ (none : PlaceOf value (a / 2 ^ 13) None) where
    pub written_unloaded : (old : List ℕ) → a % 64 + length old ≤ 64 → old ≡ seen (byte_at value) a old
    written_unloaded old fits = seen_no_block chunk_byte (2 ^ 13) size_chunk (chunk_of value) a old (omega arith) (missing value (a / 2 ^ 13) none)

-- an access in one page sees the bytes below where there is no chunk
pub written_unread : (value : List ChunkSeen) (a : ℕ) (below : List ℕ) → PlaceOf value (a / 2 ^ 13) None → a % 64 + length below ≤ 64
    → little_number (length below) below ≡ seen_number (byte_at value) a below
written_unread value a below none fits = level_unread chunk_byte (2 ^ 13) size_chunk (chunk_of value) a below (omega (arith, fits)) (missing value (a / 2 ^ 13) none)

-- an access of a few bytes sees those below where there is no chunk, nor a next one
pub written_apart : (value : List ChunkSeen) (a : ℕ) (below : List ℕ) → IsApart value (a / 2 ^ 13) → length below ≤ 8 → little_number (length below) below ≡ seen_number (byte_at value) a below
written_apart value a below apart few =
    ap (little_number (length below)) (seen_none (byte_at value) a below (λ i h. elim (cases_eq ((a + i) / 2 ^ 13) (a / 2 ^ 13)) [
      | inl same ↦ at_unknown chunk_byte (2 ^ 13) size_chunk (chunk_of value) (a + i) (ap (chunk_of value) same ∙ missing value (a / 2 ^ 13) apart.0)
      | inr other ↦
          let next : (a + i) / 2 ^ 13 ≡ a / 2 ^ 13 + 1 = omega (arith, other, h, few) in
          at_unknown chunk_byte (2 ^ 13) size_chunk (chunk_of value) (a + i) (ap (chunk_of value) next ∙ missing value (a / 2 ^ 13 + 1) apart.1)
    ]))

-- what is stored in a chunk that was made for it
module _ (value chunks before : List ChunkSeen) (view : chunks ≡ value) (same_bytes : (x : ℕ) → byte_at value x ≡ byte_at before x) (last last_number begin limit : ℕ) (is : IsWritten chunks last last_number begin limit)
    (a place : ℕ) (stands : StandsAt value place (a / 2 ^ 13)) (old new : ChunkSeen) (was : old ≡ get_or chunks place old) (same : new.number ≡ old.number) where
  pub written_stored : (bytes : List ℕ) → a % 64 + length bytes ≤ 64 → ((y : ℕ) → chunk_byte new y ≡ laid (chunk_byte old) (a % 2 ^ 13) bytes y)
      → (x : ℕ) → byte_at (slice_set chunks place new) x ≡ laid (byte_at before) a bytes x
  written_stored bytes fits change x =
      written_over value chunks view last last_number begin limit is a place old stands was new same bytes true fits change x
      ∙ laid_same (byte_at value) (byte_at before) a bytes x (same_bytes x)

  pub written_stays : ((y : ℕ) → chunk_byte new y ≡ chunk_byte old y) → (x : ℕ) → byte_at (slice_set chunks place new) x ≡ byte_at before x
  written_stays change x =
      written_over value chunks view last last_number begin limit is a place old stands was new same [] false (omega arith) change x ∙ same_bytes x
