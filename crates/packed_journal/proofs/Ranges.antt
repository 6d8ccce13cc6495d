-- Words that tell values of their types fit, and so do words that come one behind the other.
use Rattle.std.proofs.Common.{◌≡◌, ℕ, suc, ◌<◌, Bool, true, List, [], ◌∷◌, ◌++◌, length, refl, arith}
use Rattle.std.specs.Prelude.{◌^◌, ◌&&◌, ◌==◌, nat_lt, slice_index, ℤ, pos, negsuc, flat_map}
use Rattle.std.specs.List.{list_all}
use Rattle.packed_journal.specs.Words.{Word, Number, Packet, Signed, fits}
use Rattle.packed_journal.specs.Readings.{fit, words_of_list}
use Rattle.packed_journal.proofs.NumberLaws.{both_first, both_second, is_less, less_is, same_is}
use lib.Signed.{mag}

pub both_hold : (a b : Bool) → a ≡ true → b ≡ true → (a && b) ≡ true
both_hold a b g h = rw g h

pub number_in_range : (bits n : ℕ) → n < 2 ^ bits → n < 2 ^ 64 → fits (Number bits n) ≡ true
number_in_range bits n small wide = both_hold (nat_lt n (2 ^ bits)) (nat_lt n (2 ^ 64)) (less_is n (2 ^ bits) small) (less_is n (2 ^ 64) wide)

pub rights_in_range : (n : ℕ) → nat_lt n 64 ≡ true → fits (Number 6 n) ≡ true
rights_in_range n h =
    let few : n < 64 = is_less n 64 h in
    number_in_range 6 n (omega (arith, few)) (omega (arith, few))

pub signed_in_range : (z : ℤ) → mag z < 2 ^ 63 → fits (Signed z) ≡ true
signed_in_range (pos n) h = less_is n (2 ^ 63) h
signed_in_range (negsuc n) h = less_is n (2 ^ 63) h

-- ---- words behind one another

pub one_more : (w : Word) (ws : List Word) → fits w ≡ true → fit ws ≡ true → fit (w ∷ ws) ≡ true
one_more w ws f g = both_hold (fits w) (fit ws) f g

pub joined : (ws vs : List Word) → fit ws ≡ true → fit vs ≡ true → fit (ws ++ vs) ≡ true
joined [] vs f g = g
joined (w ∷ ws) vs f g = both_hold (fits w) (fit (ws ++ vs)) (both_first (fits w) (fit ws) f) (joined ws vs (both_second (fits w) (fit ws) f) g)

-- the words of each item of a list
items_fit : {X : Type 0} (words : X → List Word) (xs : List X) → list_all (λ x. fit (words x)) xs ≡ true → fit (flat_map words xs) ≡ true
items_fit words [] f = refl
items_fit words (x ∷ xs) f =
    joined (words x) (flat_map words xs) (both_first (fit (words x)) (list_all (λ y. fit (words y)) xs) f)
    (items_fit words xs (both_second (fit (words x)) (list_all (λ y. fit (words y)) xs) f))

pub list_fits : {X : Type 0} (words : X → List Word) (xs : List X) → fits (Number 64 (length xs)) ≡ true → list_all (λ x. fit (words x)) xs ≡ true → fit (words_of_list words xs) ≡ true
list_fits words xs count each = one_more (Number 64 (length xs)) (flat_map words xs) count (items_fit words xs each)

-- ---- a packet's bytes

pub each_below : (bytes : List ℕ) → ((at : ℕ) → slice_index bytes at < 256) → list_all (λ byte. nat_lt byte 256) bytes ≡ true
each_below [] below = refl
each_below (byte ∷ bytes) below = both_hold (nat_lt byte 256) (list_all (λ b. nat_lt b 256) bytes) (less_is byte 256 (below 0)) (each_below bytes (λ at. below (suc at)))

pub packet_in_range : (bytes : List ℕ) → length bytes ≡ 64 → list_all (λ b. nat_lt b 256) bytes ≡ true → fits (Packet bytes) ≡ true
packet_in_range bytes count below = both_hold (length bytes == 64) (list_all (λ b. nat_lt b 256) bytes) (same_is (length bytes) 64 count) below
