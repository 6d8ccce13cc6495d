-- Words that tell values of their types fit, and so do words that come one behind the other.
use Rattle.std.proofs.Common.{◌≡◌, ℕ, ◌<◌, Bool, true, List, [], ◌∷◌, ◌++◌, length, get_or, refl, arith, Fits, w8}
use Rattle.std.specs.Prelude.{◌^◌, nat_lt, ℤ, pos, negsuc, flat_map}
use Rattle.std.specs.List.{list_all}
use Rattle.std.proofs.lemmas.Bool.Decides.{nat_tests}
use Rattle.std.proofs.lemmas.List.Elements.{All-from_get_or}
use Rattle.std.proofs.lemmas.List.Sums.{list_all-from_AllPass}
use Rattle.queue_error.specs.declared.rule.Rule.{Rule}
use Rattle.queue_error.specs.declared.rule.Rule.TheVariants.{L1, L2, L3, L4, L5, L6, L7, L8, L9, L10, A1, A2, A3, A4, A5, A6, A7, B1}
use Rattle.queue_error.specs.Texts.{text_of_rule}
use Rattle.journal.specs.Words.{Word, Name, Number, Signed, Bytes, Packet, fits}
use Rattle.journal.specs.Entries.{fit, words_of_list}
use Rattle.journal.proofs.WordLaws.{both, both_first, both_second}
use lib.Signed.{mag}

is_less : (a b : ℕ) → a < b → nat_lt a b ≡ true
is_less a b h = grind (arith, nat_tests)

pub number_in_range : (bits n : ℕ) → n < 2 ^ bits → n < 2 ^ 64 → fits (Number bits n) ≡ true
number_in_range bits n small wide = both (nat_lt n (2 ^ bits)) (nat_lt n (2 ^ 64)) (is_less n (2 ^ bits) small) (is_less n (2 ^ 64) wide)

pub signed_in_range : (z : ℤ) → mag z < 2 ^ 63 → fits (Signed z) ≡ true
signed_in_range (pos n) h = is_less n (2 ^ 63) h
signed_in_range (negsuc n) h = is_less n (2 ^ 63) h

pub bytes_in_range : (bs : List ℕ) → ((i : ℕ) → Fits w8 (get_or bs i 0)) → fits (Bytes bs) ≡ true
bytes_in_range bs small =
    list_all-from_AllPass (λ byte. nat_lt byte 256) bs
    (All-from_get_or (λ byte. nat_lt byte 256 ≡ true) bs 0 (λ i l. is_less (get_or bs i 0) 256 (omega (arith, small i))))

pub packet_in_range : (bs : List ℕ) → length bs ≡ 64 → fits (Bytes bs) ≡ true → fits (Packet bs) ≡ true
packet_in_range bs count all = rw count all

pub rule_has_no_blank : (rule : Rule) → fits (Name (text_of_rule rule)) ≡ true
rule_has_no_blank L1 = refl
rule_has_no_blank L2 = refl
rule_has_no_blank L3 = refl
rule_has_no_blank L4 = refl
rule_has_no_blank L5 = refl
rule_has_no_blank L6 = refl
rule_has_no_blank L7 = refl
rule_has_no_blank L8 = refl
rule_has_no_blank L9 = refl
rule_has_no_blank L10 = refl
rule_has_no_blank A1 = refl
rule_has_no_blank A2 = refl
rule_has_no_blank A3 = refl
rule_has_no_blank A4 = refl
rule_has_no_blank A5 = refl
rule_has_no_blank A6 = refl
rule_has_no_blank A7 = refl
rule_has_no_blank B1 = refl

-- ---- words behind one another

pub one_more : (w : Word) (ws : List Word) → fits w ≡ true → fit ws ≡ true → fit (w ∷ ws) ≡ true
one_more w ws f g = both (fits w) (fit ws) f g

pub joined : (ws vs : List Word) → fit ws ≡ true → fit vs ≡ true → fit (ws ++ vs) ≡ true
joined [] vs f g = g
joined (w ∷ ws) vs f g = both (fits w) (fit (ws ++ vs)) (both_first (fits w) (fit ws) f) (joined ws vs (both_second (fits w) (fit ws) f) g)

-- the words of each item of a list
items_fit : {X : Type 0} (words : X → List Word) (xs : List X) → list_all (λ x. fit (words x)) xs ≡ true → fit (flat_map words xs) ≡ true
items_fit words [] f = refl
items_fit words (x ∷ xs) f =
    joined (words x) (flat_map words xs) (both_first (fit (words x)) (list_all (λ y. fit (words y)) xs) f)
    (items_fit words xs (both_second (fit (words x)) (list_all (λ y. fit (words y)) xs) f))

pub list_fits : {X : Type 0} (words : X → List Word) (xs : List X) → fits (Number 64 (length xs)) ≡ true → list_all (λ x. fit (words x)) xs ≡ true → fit (words_of_list words xs) ≡ true
list_fits words xs count each = one_more (Number 64 (length xs)) (flat_map words xs) count (items_fit words xs each)
