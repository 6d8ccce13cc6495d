-- Items between commas, one byte more.
use Rattle.std.proofs.Common.{◌≡◌, ℕ, ◌+◌, ◌<◌, ◌≤◌, List, [], ◌∷◌, ◌++◌, length, get_or, take, drop, refl, sym, ap, ◌∙◌, arith}
use Rattle.std.specs.Prelude.{◌==◌, false}
use Rattle.std.proofs.lemmas.Bool.Decides.{nat_tests}
use Rattle.std.proofs.lemmas.List.{take_more, take_all, drop_all}
use Rattle.words.proofs.Splitting.{left_at}
use Rattle.words.specs.Lines.{Word}
use Rattle.words.specs.Items.{items_from}

pub items_end : (item : Word) → items_from item [] ≡ item ∷ []
unfolding items_from
items_end item = refl

pub at_comma : (item : Word) (byte : ℕ) (bytes : List ℕ) → byte ≡ 44 → items_from item (byte ∷ bytes) ≡ item ∷ items_from [] bytes
unfolding items_from
at_comma item byte bytes e = rw e refl

pub past_comma : (item : Word) (byte : ℕ) (bytes : List ℕ) → (byte ≡ 44 → ⊥) → items_from item (byte ∷ bytes) ≡ items_from (item ++ byte ∷ []) bytes
unfolding items_from
past_comma item byte bytes e =
    let other : (byte == 44) ≡ false = grind (arith, nat_tests) in rw other refl

pub items_comma : (word : List ℕ) (i : ℕ) → i < length word → get_or word i 0 ≡ 44 → items_from (take i word) (drop i word) ≡ take i word ∷ items_from [] (drop (i + 1) word)
items_comma word i h e = ap (items_from (take i word)) (left_at word i h) ∙ at_comma (take i word) (get_or word i 0) (drop (i + 1) word) e

pub items_more : (word : List ℕ) (i : ℕ) → i < length word → (get_or word i 0 ≡ 44 → ⊥) → items_from (take (i + 1) word) (drop (i + 1) word) ≡ items_from (take i word) (drop i word)
items_more word i h e =
    rw (take_more word i 0 h) (sym (ap (items_from (take i word)) (left_at word i h) ∙ past_comma (take i word) (get_or word i 0) (drop (i + 1) word) e))

pub items_all : (word : List ℕ) (i : ℕ) → length word ≤ i → items_from (take i word) (drop i word) ≡ word ∷ []
items_all word i h = rw (take_all i word h, drop_all i word h) (items_end word)

pub items_split : (word : List ℕ) (i : ℕ) (item from rest : List ℕ) {all : List Word} → i < length word → get_or word i 0 ≡ 44 →
    all ≡ items_from (take i word) (drop i word) → item ≡ take i word → from ≡ drop i word → rest ≡ drop 1 from → all ≡ item ∷ items_from [] rest
items_split word i item from rest h comma e is_item is_from is_rest =
    let behind : rest ≡ drop (i + 1) word = is_rest ∙ ap (drop 1) (is_from ∙ left_at word i h) in
    rw (is_item, behind) (e ∙ items_comma word i h comma)
