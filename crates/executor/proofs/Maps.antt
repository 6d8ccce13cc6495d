-- Bytes laid over a map and seen through it, and maps made of blocks.
use Rattle.std.proofs.Common.{◌≡◌, ◌≢◌, ℕ, zero, suc, ◌+◌, ◌-◌, ◌*◌, ◌/◌, ◌%◌, ◌^◌, ◌<◌, ◌≤◌, true, false, List, [], ◌∷◌, ◌++◌, length, take, drop, get_or, refl, sym, ap, ◌∙◌, arith, Option, Some, None, slice_set, inl, inr, bit_or, bit_and}
use Rattle.std.specs.Prelude.{slice_get, if◌then◌else◌}
use Rattle.std.specs.Option.{unwrap_or, option_and_then}
use Rattle.std.specs.Int.{bit_at, w64}
use Rattle.std.proofs.lemmas.Bool.{cases_lt}
use Rattle.std.proofs.lemmas.Bool.Decides.{nat_tests}
use Rattle.std.proofs.lemmas.Grind.{common_steps}
use Rattle.std.proofs.Common.{length-append, ◌⊎◌}
use Rattle.std.specs.Prelude.{OnOk, OnErr, Result, Ok, Err}
use Rattle.std.proofs.lemmas.Nat.Bits.{bit_at_set_same, bit_at_set_other, shr_and_one}
use Rattle.std.proofs.lemmas.Option.{slice_get-get_or}
use Rattle.executor.specs.declared.page.Page.{Page}
use Rattle.aql_packet.specs.Memory.{covers}
use Rattle.executor.specs.Written.{laid, seen}
use Rattle.executor.specs.inner.Pages.{page_byte, in_blocks}

-- ---- reading lists
pub get_set_same : {X : Type 0} (xs : List X) (i : ℕ) (v : X) → i < length xs → slice_get (slice_set xs i v) i ≡ Some v
get_set_same [] i v h = absurd (omega arith)
get_set_same (x ∷ xs) zero v h = refl
get_set_same (x ∷ xs) (suc i) v h = get_set_same xs i v (omega arith)

pub get_set_other : {X : Type 0} (xs : List X) (i j : ℕ) (v : X) → j ≢ i → slice_get (slice_set xs i v) j ≡ slice_get xs j
get_set_other [] i j v other = refl
get_set_other (x ∷ xs) zero zero v other = absurd (other refl)
get_set_other (x ∷ xs) zero (suc j) v other = refl
get_set_other (x ∷ xs) (suc i) zero v other = refl
get_set_other (x ∷ xs) (suc i) (suc j) v other = get_set_other xs i j v (λ e. other (ap suc e))

pub get_append_left : {X : Type 0} (xs ys : List X) (i : ℕ) → i < length xs → slice_get (xs ++ ys) i ≡ slice_get xs i
get_append_left [] ys i h = absurd (omega arith)
get_append_left (x ∷ xs) ys zero h = refl
get_append_left (x ∷ xs) ys (suc i) h = get_append_left xs ys i (omega arith)

pub get_append_right : {X : Type 0} (xs ys : List X) (i : ℕ) → slice_get (xs ++ ys) (length xs + i) ≡ slice_get ys i
get_append_right [] ys i = let e : 0 + i ≡ i = omega arith in ap (slice_get ys) e
get_append_right (x ∷ xs) ys i =
    let e : length (x ∷ xs) + i ≡ suc (length xs + i) = omega arith in
    ap (slice_get (x ∷ (xs ++ ys))) e ∙ get_append_right xs ys i

pub get_past : {X : Type 0} (xs : List X) (i : ℕ) → length xs ≤ i → slice_get xs i ≡ None
get_past [] i h = refl
get_past (x ∷ xs) zero h = absurd (omega arith)
get_past (x ∷ xs) (suc i) h = get_past xs i (omega arith)

pub get_read : {X : Type 0} (xs : List X) (i : ℕ) (v : X) → v ≡ get_or xs i v → i < length xs → slice_get xs i ≡ Some v
get_read [] i v e h = absurd (omega arith)
get_read (x ∷ xs) zero v e h = ap Some (sym e)
get_read (x ∷ xs) (suc i) v e h = get_read xs i v e (omega arith)

-- ---- ranges
pub inside : (a n x : ℕ) → a ≤ x → x < a + n → covers a n x ≡ true
inside a n x p q = grind (arith, nat_tests)

pub below : (a n x : ℕ) → x < a → covers a n x ≡ false
below a n x p = grind (arith, nat_tests)

pub past : (a n x : ℕ) → a + n ≤ x → covers a n x ≡ false
past a n x p = grind (arith, nat_tests)

-- a number lies before a range, in it or behind it
pub by_range : {P : Type 0} (a n x : ℕ) → (x < a → P) → (a ≤ x → x < a + n → P) → (a + n ≤ x → P) → P
by_range {P} a n x before within behind = at (cases_lt x a) (cases_lt x (a + n))
  where
    at : (x < a) ⊎ (a ≤ x) → (x < a + n) ⊎ (a + n ≤ x) → P
    at (inl p) q = before p
    at (inr p) (inl q) = within p q
    at (inr p) (inr q) = behind q

-- ---- bytes laid
pub laid_inside : (at : ℕ → Option ℕ) (a : ℕ) (bytes : List ℕ) (x : ℕ) → a ≤ x → x < a + length bytes → laid at a bytes x ≡ slice_get bytes (x - a)
laid_inside at a bytes x p q = rw (inside a (length bytes) x p q) refl

pub laid_below : (at : ℕ → Option ℕ) (a : ℕ) (bytes : List ℕ) (x : ℕ) → x < a → laid at a bytes x ≡ at x
laid_below at a bytes x p = rw (below a (length bytes) x p) refl

pub laid_past : (at : ℕ → Option ℕ) (a : ℕ) (bytes : List ℕ) (x : ℕ) → a + length bytes ≤ x → laid at a bytes x ≡ at x
laid_past at a bytes x p = rw (past a (length bytes) x p) refl

pub laid_same : (f g : ℕ → Option ℕ) (a : ℕ) (bytes : List ℕ) (x : ℕ) → f x ≡ g x → laid f a bytes x ≡ laid g a bytes x
laid_same f g a bytes x e = ap (λ v. if covers a (length bytes) x then slice_get bytes (x - a) else v) e

-- the same bytes at two places of two maps, as far from the place looked at
pub laid_moved : (f g : ℕ → Option ℕ) (a y b x : ℕ) (bytes : List ℕ) → a + x ≡ y + b → f y ≡ g x → laid f a bytes y ≡ laid g b bytes x
laid_moved f g a y b x bytes e same =
    by_range b (length bytes) x
    (λ p. laid_below f a bytes y (omega arith) ∙ (same ∙ sym (laid_below g b bytes x p)))
    (λ p q. let d : y - a ≡ x - b = omega arith in
    laid_inside f a bytes y (omega arith) (omega arith) ∙ (ap (slice_get bytes) d ∙ sym (laid_inside g b bytes x p q)))
    (λ p. laid_past f a bytes y (omega arith) ∙ (same ∙ sym (laid_past g b bytes x p)))

pub laid_nothing : (at : ℕ → Option ℕ) (a x : ℕ) → laid at a [] x ≡ at x
laid_nothing at a x = by_range a 0 x (λ p. laid_below at a [] x p) (λ p q. absurd (omega arith)) (λ p. laid_past at a [] x p)

-- bytes laid behind others
pub laid_twice : (at : ℕ → Option ℕ) (a b : ℕ) (xs ys : List ℕ) (x : ℕ) → b ≡ a + length xs → laid (laid at a xs) b ys x ≡ laid at a (xs ++ ys) x
laid_twice at a b xs ys x is =
    let long : length (xs ++ ys) ≡ length xs + length ys = length-append xs ys in
    by_range b (length ys) x
    (λ p. laid_below (laid at a xs) b ys x p ∙ by_range a (length xs) x
    (λ q. laid_below at a xs x q ∙ sym (laid_below at a (xs ++ ys) x q))
    (λ q r. laid_inside at a xs x q r ∙ (sym (get_append_left xs ys (x - a) (omega arith)) ∙ sym (laid_inside at a (xs ++ ys) x q (omega arith))))
    (λ q. absurd (omega arith)))
    (λ p q. let d : x - a ≡ length xs + (x - b) = omega arith in
    laid_inside (laid at a xs) b ys x p q ∙ (sym (get_append_right xs ys (x - b)) ∙ (ap (slice_get (xs ++ ys)) (sym d) ∙ sym (laid_inside at a (xs ++ ys) x (omega arith) (omega arith)))))
    (λ p. laid_past (laid at a xs) b ys x p ∙ (laid_past at a xs x (omega arith) ∙ sym (laid_past at a (xs ++ ys) x (omega arith))))

-- one more byte of a store
pub laid_more : (at : ℕ → Option ℕ) (a i : ℕ) (bytes : List ℕ) → i < length bytes → (x : ℕ) → laid (laid at a (take i bytes)) (a + i) (get_or bytes i 0 ∷ []) x ≡ laid at a (take (i + 1) bytes) x
laid_more at a i bytes h x =
    let long : length (take i bytes) ≡ i = grind (arith, common_steps) in
    let more : take i bytes ++ get_or bytes i 0 ∷ [] ≡ take (i + 1) bytes = grind (arith, common_steps) in
    laid_twice at a (a + i) (take i bytes) (get_or bytes i 0 ∷ []) x (omega arith) ∙ ap (λ b. laid at a b x) more

-- ---- bytes seen
-- the bytes of a buffer of which the first few were looked at
abbrev pub seen_part : (ℕ → Option ℕ) → ℕ → ℕ → List ℕ → List ℕ
seen_part at a zero old = old
seen_part at a (suc n) [] = []
seen_part at a (suc n) (old ∷ rest) = unwrap_or (at a) old ∷ seen_part at (a + 1) n rest

pub part_some : (at : ℕ → Option ℕ) (a i byte : ℕ) (old : List ℕ) → i < length old → at (a + i) ≡ Some byte → slice_set (seen_part at a i old) i byte ≡ seen_part at a (suc i) old
part_some at a i byte [] h e = absurd (omega arith)
part_some at a zero byte (x ∷ old) h e =
    let here : a + 0 ≡ a = omega arith in
    ap (λ v. unwrap_or v x ∷ old) (sym e ∙ ap at here)
part_some at a (suc i) byte (x ∷ old) h e =
    let there : (a + 1) + i ≡ a + suc i = omega arith in
    ap (λ v. unwrap_or (at a) x ∷ v) (part_some at (a + 1) i byte old (omega arith) (ap at there ∙ e))

pub part_none : (at : ℕ → Option ℕ) (a i : ℕ) (old : List ℕ) → i < length old → at (a + i) ≡ None → seen_part at a i old ≡ seen_part at a (suc i) old
part_none at a i [] h e = absurd (omega arith)
part_none at a zero (x ∷ old) h e =
    let here : a + 0 ≡ a = omega arith in
    ap (λ v. unwrap_or v x ∷ old) (sym e ∙ ap at here)
part_none at a (suc i) (x ∷ old) h e =
    let there : (a + 1) + i ≡ a + suc i = omega arith in
    ap (λ v. unwrap_or (at a) x ∷ v) (part_none at (a + 1) i old (omega arith) (ap at there ∙ e))

pub part_all : (at : ℕ → Option ℕ) (a i : ℕ) (old : List ℕ) → length old ≤ i → seen_part at a i old ≡ seen at a old
part_all at a zero [] h = refl
part_all at a (suc i) [] h = refl
part_all at a zero (x ∷ old) h = absurd (omega arith)
part_all at a (suc i) (x ∷ old) h = ap (λ v. unwrap_or (at a) x ∷ v) (part_all at (a + 1) i old (omega arith))

pub seen_append : (at : ℕ → Option ℕ) (a b : ℕ) (xs ys : List ℕ) → b ≡ a + length xs → seen at a xs ++ seen at b ys ≡ seen at a (xs ++ ys)
seen_append at a b [] ys is = let e : b ≡ a = omega arith in ap (λ p. seen at p ys) e
seen_append at a b (x ∷ xs) ys is = ap (λ v. unwrap_or (at a) x ∷ v) (seen_append at (a + 1) b xs ys (omega arith))

pub seen_same : (f g : ℕ → Option ℕ) (a b : ℕ) (old : List ℕ) → ((i : ℕ) → i < length old → f (a + i) ≡ g (b + i)) → seen f a old ≡ seen g b old
seen_same f g a b [] same = refl
seen_same f g a b (x ∷ old) same =
    let here : a + 0 ≡ a = omega arith in
    let there : b + 0 ≡ b = omega arith in
    let first : f a ≡ g b = sym (ap f here) ∙ (same 0 (omega arith) ∙ ap g there) in
    let rest : seen f (a + 1) old ≡ seen g (b + 1) old =
    seen_same f g (a + 1) (b + 1) old (λ i h.
    let l : a + suc i ≡ (a + 1) + i = omega arith in
    let r : b + suc i ≡ (b + 1) + i = omega arith in
    sym (ap f l) ∙ (same (suc i) (omega arith) ∙ ap g r)) in
    cc

pub seen_none : (f : ℕ → Option ℕ) (a : ℕ) (old : List ℕ) → ((i : ℕ) → i < length old → f (a + i) ≡ None) → old ≡ seen f a old
seen_none f a [] same = refl
seen_none f a (x ∷ old) same =
    let here : a + 0 ≡ a = omega arith in
    let first : f a ≡ None = sym (ap f here) ∙ same 0 (omega arith) in
    let rest : old ≡ seen f (a + 1) old =
    seen_none f (a + 1) old (λ i h.
    let l : a + suc i ≡ (a + 1) + i = omega arith in
    sym (ap f l) ∙ same (suc i) (omega arith)) in
    let head : x ≡ unwrap_or (f a) x = rw first refl in
    cc

-- ---- blocks
-- what division by a size says of numbers in one block; it is proved for each size that there is
pub record IsSize (size : ℕ) : Type 0 where
  pub apart : (a x : ℕ) → a / size ≡ x / size → a % size + x ≡ x % size + a
  pub near : (a x n : ℕ) → a % size + n ≤ size → a ≤ x → x < a + n → x / size ≡ a / size
  pub within : (block x : ℕ) → x < size → (block * size + x) / size ≡ block
  pub place : (block x : ℕ) → x < size → (block * size + x) % size ≡ x
  pub behind : (block x : ℕ) → block * size ≤ x → block ≤ x / size

pub size_64 : IsSize 64
size_64 = record { apart = λ a x e. omega arith; near = λ a x n p q r. omega arith; within = λ b x p. omega arith; place = λ b x p. omega arith; behind = λ b x p. omega arith }

pub size_chunk : IsSize (2 ^ 13)
size_chunk = record { apart = λ a x e. omega arith; near = λ a x n p q r. omega arith; within = λ b x p. omega arith; place = λ b x p. omega arith; behind = λ b x p. omega arith }

module _ {Block : Type 0} (byte_of : Block → ℕ → Option ℕ) (size : ℕ) (is : IsSize size) (block_at : ℕ → Option Block) where
  pub at_known : (block : Block) (x : ℕ) → block_at (x / size) ≡ Some block → in_blocks byte_of size block_at x ≡ byte_of block (x % size)
  at_known block x e = ap (option_and_then (λ b. byte_of b (x % size))) e

  pub at_unknown : (x : ℕ) → block_at (x / size) ≡ None → in_blocks byte_of size block_at x ≡ None
  at_unknown x e = ap (option_and_then (λ b. byte_of b (x % size))) e

  -- an access that lies in one block
  pub seen_block : (a : ℕ) (block : Block) (old : List ℕ) → a % size + length old ≤ size → block_at (a / size) ≡ Some block
      → seen (byte_of block) (a % size) old ≡ seen (in_blocks byte_of size block_at) a old
  seen_block a block old fits known =
      seen_same (byte_of block) (in_blocks byte_of size block_at) (a % size) a old (λ i h.
      let home : (a + i) / size ≡ a / size = is.near a (a + i) (length old) fits (omega arith) (omega arith) in
      let far : a % size + (a + i) ≡ (a + i) % size + a = is.apart a (a + i) (sym home) in
      let place : (a + i) % size ≡ a % size + i = omega arith in
      sym (at_known block (a + i) (ap block_at home ∙ known) ∙ ap (byte_of block) place))

  pub seen_no_block : (a : ℕ) (old : List ℕ) → a % size + length old ≤ size → block_at (a / size) ≡ None
      → old ≡ seen (in_blocks byte_of size block_at) a old
  seen_no_block a old fits unknown =
      seen_none (in_blocks byte_of size block_at) a old (λ i h.
      let home : (a + i) / size ≡ a / size = is.near a (a + i) (length old) fits (omega arith) (omega arith) in
      at_unknown (a + i) (ap block_at home ∙ unknown))

module _ {Block : Type 0} (byte_of : Block → ℕ → Option ℕ) (size : ℕ) (is : IsSize size) (block_at after : ℕ → Option Block) (a : ℕ) (old new : Block)
    (had : block_at (a / size) ≡ Some old) (has : after (a / size) ≡ Some new) (others : (n : ℕ) → n ≢ a / size → after n ≡ block_at n) where
  -- bytes laid over one block are laid over the whole
  pub level_stored : (bytes : List ℕ) → a % size + length bytes ≤ size → ((y : ℕ) → byte_of new y ≡ laid (byte_of old) (a % size) bytes y)
      → (x : ℕ) → in_blocks byte_of size after x ≡ laid (in_blocks byte_of size block_at) a bytes x
  level_stored bytes fits change x =
      at (cases_lt (x / size) (a / size)) (cases_lt (a / size) (x / size))
    where
      other : x / size ≢ a / size → in_blocks byte_of size after x ≡ laid (in_blocks byte_of size block_at) a bytes x
      other not_here =
          let before : in_blocks byte_of size after x ≡ in_blocks byte_of size block_at x =
          ap (option_and_then (λ b. byte_of b (x % size))) (others (x / size) not_here) in
          by_range a (length bytes) x
          (λ p. before ∙ sym (laid_below (in_blocks byte_of size block_at) a bytes x p))
          (λ p q. absurd (not_here (is.near a x (length bytes) fits p q)))
          (λ p. before ∙ sym (laid_past (in_blocks byte_of size block_at) a bytes x p))

      same : x / size ≡ a / size → in_blocks byte_of size after x ≡ laid (in_blocks byte_of size block_at) a bytes x
      same e =
          at_known byte_of size is after new x (ap after e ∙ has)
          ∙ (change (x % size)
          ∙ laid_moved (byte_of old) (in_blocks byte_of size block_at) (a % size) (x % size) a x bytes
          (is.apart a x (sym e)) (sym (at_known byte_of size is block_at old x (ap block_at e ∙ had))))

      at : (x / size < a / size) ⊎ (a / size ≤ x / size) → (a / size < x / size) ⊎ (x / size ≤ a / size) → in_blocks byte_of size after x ≡ laid (in_blocks byte_of size block_at) a bytes x
      at (inl p) q = other (λ e. absurd (omega arith))
      at (inr p) (inl q) = other (λ e. absurd (omega arith))
      at (inr p) (inr q) = same (omega arith)

  pub level_kept : a % size ≤ size → ((y : ℕ) → byte_of new y ≡ byte_of old y) → (x : ℕ) → in_blocks byte_of size after x ≡ in_blocks byte_of size block_at x
  level_kept fits change x =
      level_stored [] (omega arith) (λ y. change y ∙ sym (laid_nothing (byte_of old) (a % size) y)) x
      ∙ laid_nothing (in_blocks byte_of size block_at) a x

-- ---- one byte of a page
pub page_set : (page : Page) (place byte : ℕ) → place < 64 → place < length page.bytes → (x : ℕ)
    → page_byte (record { mask = bit_or page.mask (1 * 2 ^ place % 2 ^ 64); bytes = slice_set page.bytes place byte }) x ≡ laid (page_byte page) place (byte ∷ []) x
page_set page place byte small known x =
    by_range place 1 x
    (λ p. other (λ e. absurd (omega arith)) ∙ sym (laid_below (page_byte page) place (byte ∷ []) x p))
    (λ p q.
    let e : x ≡ place = omega arith in
    let d : x - place ≡ 0 = omega arith in
    same e ∙ (sym (ap (slice_get (byte ∷ [])) d) ∙ sym (laid_inside (page_byte page) place (byte ∷ []) x p q)))
    (λ p. other (λ e. absurd (omega arith)) ∙ sym (laid_past (page_byte page) place (byte ∷ []) x p))
  where
    other : x ≢ place → page_byte (record { mask = bit_or page.mask (1 * 2 ^ place % 2 ^ 64); bytes = slice_set page.bytes place byte }) x ≡ page_byte page x
    other off = rw (bit_at_set_other w64 page.mask place small x off, get_set_other page.bytes place x byte off) refl

    same : x ≡ place → page_byte (record { mask = bit_or page.mask (1 * 2 ^ place % 2 ^ 64); bytes = slice_set page.bytes place byte }) x ≡ Some byte
    same e = rw (e, bit_at_set_same w64 page.mask place small) (get_set_same page.bytes place byte known)

pub page_read : (page : Page) (place : ℕ) → bit_and (page.mask / 2 ^ place) 1 ≡ 1 → place < length page.bytes → Some (get_or page.bytes place 0) ≡ page_byte page place
page_read page place e h =
    let set : bit_at page.mask place ≡ 1 = sym (shr_and_one page.mask place) ∙ e in
    rw set (sym (slice_get-get_or page.bytes place 0 h))

-- one turn of a load
pub part_after_some : (at : ℕ → Option ℕ) (a i byte : ℕ) (old buffer new : List ℕ) → buffer ≡ seen_part at a i old → i < length old → at (a + i) ≡ Some byte → new ≡ slice_set buffer i byte
    → new ≡ seen_part at a (i + 1) old
part_after_some at a i byte old buffer new was h e is =
    let next : suc i ≡ i + 1 = omega arith in
    is ∙ (ap (λ b. slice_set b i byte) was ∙ (part_some at a i byte old h e ∙ ap (λ n. seen_part at a n old) next))

pub part_after_none : (at : ℕ → Option ℕ) (a i : ℕ) (old buffer new : List ℕ) → buffer ≡ seen_part at a i old → i < length old → at (a + i) ≡ None → new ≡ buffer
    → new ≡ seen_part at a (i + 1) old
part_after_none at a i old buffer new was h e is =
    let next : suc i ≡ i + 1 = omega arith in
    is ∙ (was ∙ (part_none at a i old h e ∙ ap (λ n. seen_part at a n old) next))

-- ---- results
pub always_err : {T E : Type 0} (r : Result T E) (P : Type 0) → P → OnErr r P
always_err (Ok x) P p = tt
always_err (Err e) P p = p

pub ok_then : {T E : Type 0} (r : Result T E) (P Q : Type 0) → OnOk r P → (P → Q) → OnOk r Q
ok_then (Ok x) P Q p f = f p
ok_then (Err e) P Q p f = tt

-- ---- accesses that cross into the next page
pub crossed_seen : (at : ℕ → Option ℕ) (a b : ℕ) (xs ys new more whole : List ℕ) → new ≡ seen at a xs → more ≡ seen at b ys → xs ++ ys ≡ whole → b ≡ a + length xs
    → new ++ more ≡ seen at a whole
crossed_seen at a b xs ys new more whole p q both next =
    ap (λ v. v ++ more) p ∙ (ap (λ v. seen at a xs ++ v) q ∙ (seen_append at a b xs ys next ∙ ap (seen at a) both))

pub crossed_laid : (at middle new : ℕ → Option ℕ) (a b : ℕ) (xs ys whole : List ℕ) → ((x : ℕ) → middle x ≡ laid at a xs x)
    → xs ++ ys ≡ whole → b ≡ a + length xs → ((x : ℕ) → new x ≡ laid middle b ys x) → (x : ℕ) → new x ≡ laid at a whole x
crossed_laid at middle new a b xs ys whole p both next q x =
    q x ∙ (laid_same middle (laid at a xs) b ys x (p x) ∙ (laid_twice at a b xs ys x next ∙ ap (λ v. laid at a v x) both))

take_drop : (n : ℕ) (xs : List ℕ) → take n xs ++ drop n xs ≡ xs
take_drop zero xs = refl
take_drop (suc n) [] = refl
take_drop (suc n) (x ∷ xs) = ap (λ v. x ∷ v) (take_drop n xs)

pub split_whole : (room : ℕ) (whole xs ys : List ℕ) → xs ≡ take room whole → ys ≡ drop room whole → xs ++ ys ≡ whole
split_whole room whole xs ys p q = ap (λ v. v ++ ys) p ∙ (ap (λ v. take room whole ++ v) q ∙ take_drop room whole)
