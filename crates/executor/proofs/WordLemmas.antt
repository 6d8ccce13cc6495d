-- Accesses of a few bytes of a page at once.
use Rattle.std.proofs.Common.{◌≡◌, ◌≢◌, ℕ, zero, suc, ◌+◌, ◌-◌, ◌*◌, ◌/◌, ◌%◌, ◌^◌, ◌<◌, ◌≤◌, List, [], ◌∷◌, ◌++◌, length, take, drop, refl, sym, ap, subst, inl, inr, ◌∙◌, arith, Option, Some, None, Bool, true, false, bit_or, bit_and, take-append-drop}
use Rattle.std.specs.Prelude.{slice_get, min, max}
use Rattle.std.specs.Option.{unwrap_or}
use Rattle.std.specs.Int.{bit_at, w64, to_le_bytes}
use Rattle.std.proofs.lemmas.List.{append-nil, drop_all, length-drop, length-take-le, take_all}
use Rattle.std.proofs.lemmas.Nat.{pow_pos, shl_whole, shr-shr}
use Rattle.std.proofs.lemmas.Bool.{cases_lt}
use Rattle.std.proofs.lemmas.Nat.Bits.{bit_at_above, bit_at_and, bit_at_or, bit_at_ones, bit_at_ones_above, bit_at-zero, bit_at-lt, bit_at_cat_low, bit_at_cat_high}
use borrow.Rule.Slice.PartMut.{mid_of, put_mid}
use Rattle.byteorder.specs.Endian.{little_number}
use Rattle.byteorder.specs.Numbers.{little_from-append}
use Rattle.executor.specs.declared.page.Page.{Page}
use Rattle.executor.specs.Written.{laid, seen}
use Rattle.executor.specs.inner.Pages.{page_byte, in_blocks}
use Rattle.executor.specs.inner.Words.{laid_if, or_below, seen_number, IsWhole}
use Rattle.executor.proofs.Maps.{get_append_left, get_append_right, by_range, laid_below, laid_inside, laid_past, seen_none, IsSize, seen_block, seen_no_block, level_stored, level_kept}

-- ---- bits of a mask
-- a bit of a part of a mask
bit_of_part : (mask place n i : ℕ) → i < n → bit_at (bit_and (mask / 2 ^ place) (2 ^ n - 1)) i ≡ bit_at mask (place + i)
bit_of_part mask place n i h =
    let both : bit_at (bit_and (mask / 2 ^ place) (2 ^ n - 1)) i ≡ min (bit_at (mask / 2 ^ place) i) (bit_at (2 ^ n - 1) i) = bit_at_and (mask / 2 ^ place) (2 ^ n - 1) i in
    let one : bit_at (2 ^ n - 1) i ≡ 1 = bit_at_ones n i h in
    let few : bit_at (mask / 2 ^ place) i < 2 = bit_at-lt (mask / 2 ^ place) i in
    let least : min (bit_at (mask / 2 ^ place) i) 1 ≡ bit_at (mask / 2 ^ place) i = omega arith in
    both ∙ (ap (min (bit_at (mask / 2 ^ place) i)) one ∙ (least ∙ ap (λ k. k % 2) (shr-shr mask place i)))

pub none_set : (mask place n i : ℕ) → bit_and (mask / 2 ^ place) (2 ^ n - 1) ≡ 0 → i < n → bit_at mask (place + i) ≡ 0
none_set mask place n i e h = sym (bit_of_part mask place n i h) ∙ (ap (λ k. bit_at k i) e ∙ bit_at-zero i)

pub all_set : (mask place n i : ℕ) → bit_and (mask / 2 ^ place) (2 ^ n - 1) ≡ 2 ^ n - 1 → i < n → bit_at mask (place + i) ≡ 1
all_set mask place n i e h = sym (bit_of_part mask place n i h) ∙ (ap (λ k. bit_at k i) e ∙ bit_at_ones n i h)

-- so many ones from a place on
ones_at : (place n : ℕ) → place + n ≤ 64 → (2 ^ n - 1) * 2 ^ place % 2 ^ 64 ≡ (2 ^ n - 1) * 2 ^ place + 0
ones_at place n fits =
    let some : 0 < 2 ^ n = pow_pos n in
    let whole : (2 ^ n - 1) * 2 ^ place % 2 ^ 64 ≡ (2 ^ n - 1) * 2 ^ place = shl_whole (2 ^ n - 1) n place 64 (omega arith) (omega arith) in
    omega arith

module _ (mask place n : ℕ) (fits : place + n ≤ 64) where
  abbrev marked : ℕ
  marked = bit_or mask ((2 ^ n - 1) * 2 ^ place % 2 ^ 64)

  marked_by : (x bit : ℕ) → bit_at ((2 ^ n - 1) * 2 ^ place + 0) x ≡ bit → bit_at marked x ≡ max (bit_at mask x) bit
  marked_by x bit e =
      bit_at_or mask ((2 ^ n - 1) * 2 ^ place % 2 ^ 64) x
      ∙ ap (max (bit_at mask x)) (ap (λ k. bit_at k x) (ones_at place n fits) ∙ e)

  marked_below : (x : ℕ) → x < place → bit_at marked x ≡ bit_at mask x
  marked_below x h =
      let e : bit_at marked x ≡ max (bit_at mask x) 0 = marked_by x 0 (bit_at_cat_low (2 ^ n - 1) place 0 x h ∙ bit_at-zero x) in
      omega arith

  marked_inside : (x : ℕ) → place ≤ x → x < place + n → bit_at marked x ≡ 1
  marked_inside x p q =
      let e : bit_at marked x ≡ max (bit_at mask x) 1 = marked_by x 1 (bit_at_cat_high (2 ^ n - 1) place 0 x (pow_pos place) p ∙ bit_at_ones n (x - place) (omega arith)) in
      let few : bit_at mask x < 2 = bit_at-lt mask x in
      omega arith

  marked_past : (x : ℕ) → place + n ≤ x → bit_at marked x ≡ bit_at mask x
  marked_past x p =
      let e : bit_at marked x ≡ max (bit_at mask x) 0 = marked_by x 0 (bit_at_cat_high (2 ^ n - 1) place 0 x (pow_pos place) (omega arith) ∙ bit_at_ones_above n (x - place) (omega arith)) in
      omega arith

-- ---- parts of lists
pub get_take : (n : ℕ) (xs : List ℕ) (i : ℕ) → i < n → slice_get (take n xs) i ≡ slice_get xs i
get_take zero xs i h = absurd (omega arith)
get_take (suc n) [] i h = refl
get_take (suc n) (x ∷ xs) zero h = refl
get_take (suc n) (x ∷ xs) (suc i) h = get_take n xs i (omega arith)

pub get_drop : (n : ℕ) (xs : List ℕ) (i : ℕ) → slice_get (drop n xs) i ≡ slice_get xs (n + i)
get_drop zero xs i = let e : i ≡ 0 + i = omega arith in ap (slice_get xs) e
get_drop (suc n) [] i = refl
get_drop (suc n) (x ∷ xs) i =
    let e : suc (n + i) ≡ suc n + i = omega arith in
    get_drop n xs i ∙ ap (slice_get (x ∷ xs)) e

some_at : (xs : List ℕ) (i : ℕ) → i < length xs → slice_get xs i ≢ None
some_at [] i h e = absurd (omega arith)
some_at (x ∷ xs) zero h e = absurd cc
some_at (x ∷ xs) (suc i) h e = some_at xs i (omega arith) e

-- bytes put into the middle of others
pub get_put : (bytes low : List ℕ) (place x : ℕ) → place + length low ≤ length bytes
    → slice_get (take place bytes ++ (low ++ drop (length low) (drop place bytes))) x ≡ laid (slice_get bytes) place low x
get_put bytes low place x fits =
    let front : length (take place bytes) ≡ place = length-take-le place bytes (omega arith) in
    by_range place (length low) x
    (λ p. get_append_left (take place bytes) _ x (omega arith) ∙ (get_take place bytes x p ∙ sym (laid_below (slice_get bytes) place low x p)))
    (λ p q.
    let e : x ≡ length (take place bytes) + (x - place) = omega arith in
    ap (slice_get (take place bytes ++ (low ++ drop (length low) (drop place bytes)))) e
    ∙ (get_append_right (take place bytes) _ (x - place)
    ∙ (get_append_left low _ (x - place) (omega arith) ∙ sym (laid_inside (slice_get bytes) place low x p q))))
    (λ p.
    let e : x ≡ length (take place bytes) + (length low + (x - (place + length low))) = omega arith in
    let back : place + (length low + (x - (place + length low))) ≡ x = omega arith in
    ap (slice_get (take place bytes ++ (low ++ drop (length low) (drop place bytes)))) e
    ∙ (get_append_right (take place bytes) _ (length low + (x - (place + length low)))
    ∙ (get_append_right low _ (x - (place + length low))
    ∙ (get_drop (length low) (drop place bytes) (x - (place + length low))
    ∙ (get_drop place bytes (length low + (x - (place + length low)))
    ∙ (ap (slice_get bytes) back ∙ sym (laid_past (slice_get bytes) place low x p)))))))

-- ---- reads of a page
-- an access of which each byte is written
pub seen_all : (at : ℕ → Option ℕ) (a : ℕ) (old bytes : List ℕ) → length bytes ≡ length old → ((i : ℕ) → i < length old → at (a + i) ≡ slice_get bytes i)
    → bytes ≡ seen at a old
seen_all at a [] [] long same = refl
seen_all at a [] (y ∷ bytes) long same = absurd (omega arith)
seen_all at a (x ∷ old) [] long same = absurd (omega arith)
seen_all at a (x ∷ old) (y ∷ bytes) long same =
    let here : a + 0 ≡ a = omega arith in
    let first : at a ≡ Some y = sym (ap at here) ∙ same 0 (omega arith) in
    let head : y ≡ unwrap_or (at a) x = rw first refl in
    let rest : bytes ≡ seen at (a + 1) old =
    seen_all at (a + 1) old bytes (omega arith) (λ i h.
    let l : a + suc i ≡ (a + 1) + i = omega arith in
    sym (ap at l) ∙ same (suc i) (omega arith)) in
    cc

unset : (page : Page) (x : ℕ) → bit_at page.mask x ≡ 0 → page_byte page x ≡ None
unset page x e = rw e refl

set_at : (page : Page) (x : ℕ) → bit_at page.mask x ≡ 1 → page_byte page x ≡ slice_get page.bytes x
set_at page x e = rw e refl

pub read_none : (page : Page) (place : ℕ) (below : List ℕ) → bit_and (page.mask / 2 ^ place) (2 ^ length below - 1) ≡ 0
    → little_number (length below) below ≡ seen_number (page_byte page) place below
read_none page place below e =
    ap (little_number (length below))
    (seen_none (page_byte page) place below (λ i h. unset page (place + i) (none_set page.mask place (length below) i e h)))

pub read_all : (page : Page) (place : ℕ) (below : List ℕ) → bit_and (page.mask / 2 ^ place) (2 ^ length below - 1) ≡ 2 ^ length below - 1
    → place + length below ≤ length page.bytes
    → little_number (length below) (drop place page.bytes) ≡ seen_number (page_byte page) place below
read_all page place below e fits =
    let n = length below in
    let part = take n (drop place page.bytes) in
    let rest : length (drop place page.bytes) ≡ length page.bytes - place = length-drop place page.bytes in
    let long : length part ≡ n = length-take-le n (drop place page.bytes) (omega arith) in
    ap (little_number n) (sym (take-append-drop n (drop place page.bytes)))
    ∙ (little_from-append n part (drop n (drop place page.bytes)) (omega arith)
    ∙ ap (little_number n) (seen_all (page_byte page) place below part long (λ i h.
    set_at page (place + i) (all_set page.mask place n i e h)
    ∙ (sym (get_drop place page.bytes i) ∙ sym (get_take n (drop place page.bytes) i h)))))

-- a part of a mask that is all set lies in it
pub set_fits : (mask place size : ℕ) → mask < 2 ^ 64 → 1 ≤ size → bit_and (mask / 2 ^ place) (2 ^ size - 1) ≡ 2 ^ size - 1 → place + size ≤ 64
set_fits mask place size small some set = elim (cases_lt 64 (place + size)) [
  | inl past ↦
      let last : bit_at mask (place + (size - 1)) ≡ 1 = all_set mask place size (size - 1) set (omega (arith, some)) in
      let none : bit_at mask (place + (size - 1)) ≡ 0 = bit_at_above mask 64 (place + (size - 1)) small (omega (arith, some, past)) in
      absurd (omega (arith, last, none))
  | inr fits ↦ fits
]

-- a number whose bits of the mask are all set
module _ (page : Page) (place size number : ℕ) (some : 1 ≤ size) (fits : place + size ≤ length page.bytes)
    (set : bit_and (page.mask / 2 ^ place) (2 ^ size - 1) ≡ 2 ^ size - 1) where
  pub read_whole : number ≡ little_number size (drop place page.bytes) → IsWhole (page_byte page) place size number
  read_whole is below long =
      is
      ∙ (ap (λ n. little_number n (drop place page.bytes)) (sym long)
      ∙ read_all page place below (subst (λ n. bit_and (page.mask / 2 ^ place) (2 ^ n - 1) ≡ 2 ^ n - 1) (sym long) set) (omega (arith, fits, long)))

  pub whole_written : page_byte page place ≢ None
  whole_written none =
      let here : place + 0 ≡ place = omega arith in
      let one : bit_at page.mask place ≡ 1 = subst (λ k. bit_at page.mask k ≡ 1) here (all_set page.mask place size 0 set (omega (arith, some))) in
      some_at page.bytes place (omega (arith, fits, some)) (sym (set_at page place one) ∙ none)

-- ---- writes to a page
-- the bytes from a place on are all those behind it
pub rest_at : (bytes : List ℕ) (place : ℕ) → length bytes ≡ 64 → mid_of place (64 - place) bytes ≡ drop place bytes
rest_at bytes place long = take_all (64 - place) (drop place bytes) (omega (arith, length-drop place bytes))

-- bytes that stand for all of those are put behind the others
put_at : (bytes part : List ℕ) (place : ℕ) → length bytes ≡ 64 → put_mid place (64 - place) bytes part ≡ take place bytes ++ part
put_at bytes part place long =
    let none : drop (64 - place) (drop place bytes) ≡ [] = drop_all (64 - place) (drop place bytes) (omega (arith, length-drop place bytes)) in
    ap (λ xs. take place bytes ++ (part ++ xs)) none ∙ ap (λ xs. take place bytes ++ xs) (append-nil part)

module _ (page : Page) (place : ℕ) (low bytes : List ℕ) (fits : place + length low ≤ 64) (put : (x : ℕ) → slice_get bytes x ≡ laid (slice_get page.bytes) place low x) where
  page_marked : (x : ℕ) → page_byte (record { mask = marked page.mask place (length low) fits; bytes = bytes }) x ≡ laid (page_byte page) place low x
  page_marked x =
      by_range place (length low) x
      (λ p. rw (marked_below page.mask place (length low) fits x p, put x, laid_below (slice_get page.bytes) place low x p) (sym (laid_below (page_byte page) place low x p)))
      (λ p q. rw (marked_inside page.mask place (length low) fits x p q, put x, laid_inside (slice_get page.bytes) place low x p q) (sym (laid_inside (page_byte page) place low x p q)))
      (λ p. rw (marked_past page.mask place (length low) fits x p, put x, laid_past (slice_get page.bytes) place low x p) (sym (laid_past (page_byte page) place low x p)))

pub page_written : (page : Page) (place n ones : ℕ) (low part : List ℕ) → length page.bytes ≡ 64 → length low ≡ n → ones ≡ 2 ^ n - 1 → place + n ≤ 64
    → part ≡ low ++ drop n (mid_of place (64 - place) page.bytes)
    → (x : ℕ) → page_byte (record { mask = bit_or page.mask (ones * 2 ^ place % 2 ^ 64); bytes = put_mid place (64 - place) page.bytes part }) x ≡ laid (page_byte page) place low x
page_written page place n ones low part long count all fits is x =
    let bytes = put_mid place (64 - place) page.bytes part in
    let many : ones ≡ 2 ^ length low - 1 = all ∙ ap (λ k. 2 ^ k - 1) (sym count) in
    let whole : part ≡ low ++ drop (length low) (drop place page.bytes) =
    is ∙ (ap (λ k. low ++ drop k (mid_of place (64 - place) page.bytes)) (sym count) ∙ ap (λ xs. low ++ drop (length low) xs) (rest_at page.bytes place long)) in
    let put : (y : ℕ) → slice_get bytes y ≡ laid (slice_get page.bytes) place low y =
    λ y. ap (λ xs. slice_get xs y) (put_at page.bytes part place long ∙ ap (λ xs. take place page.bytes ++ xs) whole) ∙ get_put page.bytes low place y (omega arith) in
    ap (λ k. page_byte (record { mask = bit_or page.mask (k * 2 ^ place % 2 ^ 64); bytes = bytes }) x) many
    ∙ page_marked page place low bytes (omega arith) put x

-- ---- what a level of blocks does, by what one of its blocks does
module _ {Block : Type 0} (byte_of : Block → ℕ → Option ℕ) (size : ℕ) (is : IsSize size) (block_at : ℕ → Option Block) where
  pub level_read : (a : ℕ) (block : Block) (below : List ℕ) (read : Option ℕ) → a % size + length below ≤ size
      → block_at (a / size) ≡ Some block → or_below read below ≡ seen_number (byte_of block) (a % size) below
      → or_below read below ≡ seen_number (in_blocks byte_of size block_at) a below
  level_read a block below read fits known change = change ∙ ap (little_number (length below)) (seen_block byte_of size is block_at a block below fits known)

  pub level_unread : (a : ℕ) (below : List ℕ) → a % size + length below ≤ size → block_at (a / size) ≡ None
      → little_number (length below) below ≡ seen_number (in_blocks byte_of size block_at) a below
  level_unread a below fits unknown = ap (little_number (length below)) (seen_no_block byte_of size is block_at a below fits unknown)

module _ {Block : Type 0} (byte_of : Block → ℕ → Option ℕ) (size : ℕ) (is : IsSize size) (block_at after : ℕ → Option Block) (a : ℕ) (old new : Block)
    (had : block_at (a / size) ≡ Some old) (has : after (a / size) ≡ Some new) (others : (n : ℕ) → n ≢ a / size → after n ≡ block_at n) where
  pub level_overwritten : (low : List ℕ) (done : Bool) → a % size + length low ≤ size → ((y : ℕ) → byte_of new y ≡ laid_if done (byte_of old) (a % size) low y)
      → (x : ℕ) → in_blocks byte_of size after x ≡ laid_if done (in_blocks byte_of size block_at) a low x
  level_overwritten low true fits change = level_stored byte_of size is block_at after a old new had has others low fits change
  level_overwritten low false fits change = level_kept byte_of size is block_at after a old new had has others (omega arith) change

-- how many low bytes there are of a number
pub length_low : (size value : ℕ) → size ≤ 8 → length (take size (to_le_bytes w64 value)) ≡ size
length_low size value few = length-take-le size (to_le_bytes w64 value) few
