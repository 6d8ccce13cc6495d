-- What a call has written and read, one step more.
use Rattle.std.proofs.Common.{◌≡◌, ℕ, zero, suc, ◌+◌, ◌-◌, ◌/◌, ◌%◌, ◌<◌, ◌≤◌, Bool, true, false, List, [], ◌∷◌, ◌++◌, length, take, set, get_or, Some, None, refl, sym, ap, ◌∙◌, arith, append_assoc, append-nil}
use Rattle.std.specs.Prelude.{◌==◌, Ok, Err, if◌then◌else◌}
use Rattle.std.proofs.lemmas.Bool.Decides.{nat_tests}
use Rattle.std.proofs.lemmas.List.{flat_map_more, length-set, take_all, take_more, take_more_set}
use Rattle.packed_journal.specs.declared.unread.Unread.{Unread}
use Rattle.packed_journal.specs.Words.{Reading, and_then, where_some, number_within, packed_full, packed_words, byte_at, with_low, number_in}
use Rattle.packed_journal.specs.Readings.{Read, and_read, wrong, read_word, read_words}
use Rattle.packed_journal.proofs.NumberLaws.{less_is, not_less_is, same_is}
use Rattle.packed_journal.proofs.Steps.{within_none, within_last, within_more, in_none, in_end, in_last, in_more, words_end, words_step}
use Rattle.packed_journal.proofs.Times.{onto, put_behind}

-- ---- numbers

pub wrote_none : (out : List ℕ) (more n : ℕ) → more ≡ 0 → out ≡ out ++ number_within more n
wrote_none out more n h = sym (ap (λ k. out ++ number_within k n) h ∙ ap (λ all. out ++ all) (within_none n) ∙ append-nil out)

pub wrote_last : (out new : List ℕ) (more n : ℕ) → 0 < more → n < 128 → new ≡ out ++ n ∷ [] → new ≡ out ++ number_within more n
wrote_last out new zero n h l e = absurd (omega (arith, h))
wrote_last out new (suc more) n h l e = e ∙ ap (λ all. out ++ all) (sym (within_last more n (less_is n 128 l)))

pub wrote_more : (out one new : List ℕ) (more n : ℕ) → 0 < more → 128 ≤ n → one ≡ out ++ (128 + n % 128) ∷ [] → new ≡ one ++ number_within (more - 1) (n / 128) → new ≡ out ++ number_within more n
wrote_more out one new zero n h l e f = absurd (omega (arith, h))
wrote_more out one new (suc more) n h l e f =
    let less : suc more - 1 ≡ more = omega arith in
    f ∙ ap (λ k. one ++ number_within k (n / 128)) less ∙ ap (λ front. front ++ number_within more (n / 128)) e
    ∙ append_assoc out ((128 + n % 128) ∷ []) (number_within more (n / 128)) ∙ ap (λ all. out ++ all) (sym (within_more more n (not_less_is n 128 l)))

pub read_none : (more : ℕ) (bytes : List ℕ) → more ≡ 0 → number_in more bytes ≡ None
read_none more bytes h = ap (λ k. number_in k bytes) h ∙ in_none bytes

pub read_end : (more : ℕ) (bytes : List ℕ) → byte_at bytes ≡ None → number_in more bytes ≡ None
read_end zero bytes e = in_none bytes
read_end (suc more) [] e = in_end more
read_end (suc more) (byte ∷ bytes) e = cc

at_byte : (byte low : ℕ) (bytes rest : List ℕ) → ◌≡◌ {A = Reading ℕ} (Some (byte, bytes)) (Some (low, rest)) → byte ∷ bytes ≡ low ∷ rest
at_byte byte low bytes rest e =
    let same : ◌≡◌ {A = ℕ × List ℕ} (byte, bytes) (low, rest) = cc in
    ap (λ read. read.0 ∷ read.1) same

pub read_last : (more low : ℕ) (bytes rest : List ℕ) → 0 < more → byte_at bytes ≡ Some (low, rest) → low < 128 → number_in more bytes ≡ Some (low, rest)
read_last zero low bytes rest h e l = absurd (omega (arith, h))
read_last (suc more) low [] rest h e l = cc
read_last (suc more) low (byte ∷ bytes) rest h e l = ap (number_in (suc more)) (at_byte byte low bytes rest e) ∙ in_last more low rest (less_is low 128 l)

pub read_more : (more low : ℕ) (bytes rest : List ℕ) → 0 < more → byte_at bytes ≡ Some (low, rest) → 128 ≤ low →
    number_in more bytes ≡ and_then (number_in (more - 1) rest) (λ high last. where_some (with_low low high) last)
read_more zero low bytes rest h e l = absurd (omega (arith, h))
read_more (suc more) low [] rest h e l = cc
read_more (suc more) low (byte ∷ bytes) rest h e l =
    let less : more ≡ suc more - 1 = omega arith in
    ap (number_in (suc more)) (at_byte byte low bytes rest e) ∙ in_more more low rest (not_less_is low 128 l)
    ∙ ap (λ k. and_then (number_in k rest) (λ high last. where_some (with_low low high) last)) less

-- ---- packets

-- one more word of a packet is put
pub full_more : (out front : List ℕ) (words : List ℕ) (at word : ℕ) (new : List ℕ) → at < length words → out ≡ front ++ packed_words (take at words) →
    word ≡ get_or words at 0 → new ≡ out ++ packed_full word → new ≡ front ++ packed_words (take (at + 1) words)
full_more out front words at word new lt so is made =
    made ∙ ap (λ all. all ++ packed_full word) so ∙ flat_map_more packed_full front (take at words) word
    ∙ ap (λ all. front ++ packed_words all) (ap (λ w. take at words ++ w ∷ []) is ∙ sym (take_more words at 0 lt))

-- a word isn't read, where one more is wanted
pub no_word : (all : Read (List ℕ)) (front : List ℕ) (left mask : ℕ) (bytes : List ℕ) (why : Unread) → all ≡ onto front (read_words left mask bytes) → 0 < left →
    read_word (mask % 2) bytes ≡ Err why → Err why ≡ all
no_word all front zero mask bytes why so some none = absurd (omega (arith, some))
no_word all front (suc left) mask bytes why so some none =
    let here : read_words (suc left) mask bytes ≡ Err why = words_step left mask bytes ∙ rw none refl in
    sym (so ∙ ap (onto front) here)

one_word : (all : Read (List ℕ)) (front more : List ℕ) (left less mask : ℕ) (bytes : List ℕ) (word : ℕ) (rest : List ℕ) → all ≡ onto front (read_words left mask bytes) →
    left ≡ suc less → read_word (mask % 2) bytes ≡ Ok (word, rest) → more ≡ front ++ word ∷ [] → all ≡ onto more (read_words less (mask / 2) rest)
one_word all front more left less mask bytes word rest so e some is =
    let here : read_words (suc less) mask bytes ≡ and_read (read_words less (mask / 2) rest) (λ words end. Ok (word ∷ words, end)) =
    words_step less mask bytes ∙ rw some refl in
    so ∙ ap (λ k. onto front (read_words k mask bytes)) e ∙ ap (onto front) here ∙ put_behind front more word (read_words less (mask / 2) rest) is

-- a word is put into a packet
pub one_put : (all : Read (List ℕ)) (words : List ℕ) (place mask : ℕ) (bytes : List ℕ) (word : ℕ) (rest : List ℕ) →
    all ≡ onto (take place words) (read_words (8 - place) mask bytes) → length words ≡ 8 → place < 8 → read_word (mask % 2) bytes ≡ Ok (word, rest) →
    (all ≡ onto (take (place + 1) (set words place word)) (read_words (8 - (place + 1)) (mask / 2) rest)) × (length (set words place word) ≡ 8)
one_put all words place mask bytes word rest so full few some = (
  one_word all (take place words) (take (place + 1) (set words place word)) (8 - place) (8 - (place + 1)) mask bytes word rest so (omega (arith, few)) some
      (take_more_set words place word (omega (arith, few, full))),
  length-set words place word ∙ full,
)

all_words : (all : Read (List ℕ)) (front : List ℕ) (left mask : ℕ) (bytes : List ℕ) → all ≡ onto front (read_words left mask bytes) → left ≡ 0 →
    all ≡ (if mask == 0 then Ok (front, bytes) else Err (wrong bytes))
all_words all front left mask bytes so e =
    so ∙ ap (λ k. onto front (read_words k mask bytes)) e ∙ ap (onto front) (words_end mask bytes) ∙ by_mask (mask == 0)
  where
    by_mask : (none : Bool) → onto front (if none then Ok ([], bytes) else Err (wrong bytes)) ≡ (if none then Ok (front, bytes) else Err (wrong bytes))
    by_mask true = ap (λ items. Ok (items, bytes)) (append-nil front)
    by_mask false = refl

-- all words are read, and no bit is left, or one is
pub packet_whole : (all : Read (List ℕ)) (words : List ℕ) (place mask : ℕ) (bytes : List ℕ) → all ≡ onto (take place words) (read_words (8 - place) mask bytes) →
    length words ≡ 8 → place ≡ 8 → mask ≡ 0 → Ok (words, bytes) ≡ all
packet_whole all words place mask bytes so full done none =
    let whole : take place words ≡ words = take_all place words (omega (arith, full, done)) in
    let zero_ : (mask == 0) ≡ true = same_is mask 0 none in
    sym (all_words all (take place words) (8 - place) mask bytes so (omega (arith, done)) ∙ rw (zero_, whole) refl)

pub packet_more : (all : Read (List ℕ)) (words : List ℕ) (place mask : ℕ) (bytes : List ℕ) → all ≡ onto (take place words) (read_words (8 - place) mask bytes) →
    place ≡ 8 → 0 < mask → Err (wrong bytes) ≡ all
packet_more all words place mask bytes so done some =
    let more : (mask == 0) ≡ false = grind (arith, nat_tests) in
    sym (all_words all (take place words) (8 - place) mask bytes so (omega (arith, done)) ∙ rw more refl)
