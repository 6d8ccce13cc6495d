-- Numbers, bytes and items, one byte more.
use Rattle.std.proofs.Common.{◌≡◌, ℕ, ◌+◌, ◌<◌, ◌≤◌, true, ◌⊎◌, inl, inr, List, [], ◌∷◌, ◌++◌, length, get_or, set, take, drop, Option, Some, None, refl, sym, ap, add-one, ◌∙◌, arith, append_assoc, append-nil, length-append}
use Rattle.std.specs.Prelude.{Bool, option_map, option_and_then, ◌==◌, false, if◌then◌else◌}
use Rattle.std.proofs.lemmas.Bool.Decides.{nat_tests}
use Rattle.std.proofs.lemmas.List.{take_more, take_more_set, take_all, drop_all, length-take-le}
use Rattle.std.proofs.Math.Seq.{drop-cons}
use Rattle.journal.specs.Readings.{done}
use Rattle.journal.specs.Words.{Text, is_blank, digit_of, with_digit, number_from, byte_of, bytes_word, packet_word, words_from}

-- what is left at a place is its byte and what is left behind it
pub left_at : (bytes : List ℕ) (i : ℕ) → i < length bytes → drop i bytes ≡ get_or bytes i 0 ∷ drop (i + 1) bytes
left_at bytes i h = rw add-one (drop-cons bytes i 0 h)

pub number_end : (number : ℕ) → number_from number [] ≡ Some number
unfolding number_from
number_end number = refl

pub number_step : (number byte : ℕ) (bytes : List ℕ) →
    number_from number (byte ∷ bytes) ≡ option_and_then (λ next. number_from next bytes) (option_and_then (with_digit number) (digit_of byte))
unfolding number_from
number_step number byte bytes = refl

-- a byte that is no digit, or a number too large, ends the reading
pub number_no_digit : (number i : ℕ) (word : List ℕ) → i < length word → digit_of (get_or word i 0) ≡ None → number_from number (drop i word) ≡ None
number_no_digit number i word h e = ap (number_from number) (left_at word i h) ∙ number_step number (get_or word i 0) (drop (i + 1) word) ∙ rw e refl

pub number_too_large : (number i digit : ℕ) (word : List ℕ) → i < length word → digit_of (get_or word i 0) ≡ Some digit → with_digit number digit ≡ None →
    number_from number (drop i word) ≡ None
number_too_large number i digit word h e w =
    ap (number_from number) (left_at word i h) ∙ number_step number (get_or word i 0) (drop (i + 1) word)
    ∙ ap (λ read. option_and_then (λ next. number_from next (drop (i + 1) word)) (option_and_then (with_digit number) read)) e
    ∙ ap (λ read. option_and_then (λ next. number_from next (drop (i + 1) word)) read) w

pub number_more : (number i digit next : ℕ) (word : List ℕ) → i < length word → digit_of (get_or word i 0) ≡ Some digit → with_digit number digit ≡ Some next →
    number_from number (drop i word) ≡ number_from next (drop (i + 1) word)
number_more number i digit next word h e w =
    ap (number_from number) (left_at word i h) ∙ number_step number (get_or word i 0) (drop (i + 1) word)
    ∙ ap (λ read. option_and_then (λ next. number_from next (drop (i + 1) word)) (option_and_then (with_digit number) read)) e
    ∙ ap (λ read. option_and_then (λ next. number_from next (drop (i + 1) word)) read) w

pub number_all : (number i : ℕ) (word : List ℕ) → length word ≤ i → number_from number (drop i word) ≡ Some number
number_all number i word h = ap (number_from number) (drop_all i word h) ∙ number_end number

pub bytes_end : bytes_word [] ≡ Some []
unfolding bytes_word
bytes_end = refl

pub bytes_odd : (high : ℕ) → bytes_word (high ∷ []) ≡ None
unfolding bytes_word
bytes_odd high = refl

pub bytes_step : (high low : ℕ) (word : Text) →
    bytes_word (high ∷ low ∷ word) ≡ option_and_then (λ byte. option_map (λ bytes. byte ∷ bytes) (bytes_word word)) (byte_of high low)
unfolding bytes_word
bytes_step high low word = refl

-- a blank ends a word, and any other byte belongs to it
pub words_end : (word : Text) → words_from word [] ≡ word ∷ []
unfolding words_from
words_end word = refl

pub at_blank : (word : Text) (byte : ℕ) (bytes : List ℕ) → is_blank byte ≡ true → words_from word (byte ∷ bytes) ≡ word ∷ words_from [] bytes
unfolding words_from
at_blank word byte bytes e = rw e refl

pub past_blank : (word : Text) (byte : ℕ) (bytes : List ℕ) → is_blank byte ≡ false → words_from word (byte ∷ bytes) ≡ words_from (word ++ byte ∷ []) bytes
unfolding words_from
past_blank word byte bytes e = rw e refl

pub words_more : (word : List ℕ) (i : ℕ) → i < length word → is_blank (get_or word i 0) ≡ false → words_from (take (i + 1) word) (drop (i + 1) word) ≡ words_from (take i word) (drop i word)
words_more word i h e =
    rw (take_more word i 0 h) (sym (ap (words_from (take i word)) (left_at word i h) ∙ past_blank (take i word) (get_or word i 0) (drop (i + 1) word) e))

pub words_all : (word : List ℕ) (i : ℕ) → length word ≤ i → words_from (take i word) (drop i word) ≡ word ∷ []
words_all word i h = rw (take_all i word h, drop_all i word h) (words_end word)

pub words_split : (word : List ℕ) (i : ℕ) (item from rest : List ℕ) {all : List Text} → i < length word → is_blank (get_or word i 0) ≡ true →
    all ≡ words_from (take i word) (drop i word) → item ≡ take i word → from ≡ drop i word → rest ≡ drop 1 from → all ≡ item ∷ words_from [] rest
words_split word i item from rest h blank e is_item is_from is_rest =
    let behind : rest ≡ drop (i + 1) word = is_rest ∙ ap (drop 1) (is_from ∙ left_at word i h) in
    let here : words_from (take i word) (drop i word) ≡ take i word ∷ words_from [] (drop (i + 1) word) =
    ap (words_from (take i word)) (left_at word i h) ∙ at_blank (take i word) (get_or word i 0) (drop (i + 1) word) blank in
    rw (is_item, behind) (e ∙ here)

-- digits without the second of a pair, or a pair that has no value
pub bytes_lone : (rest : Text) (high : ℕ) (further : Text) → rest ≡ high ∷ further → length further ≡ 0 → bytes_word rest ≡ None
bytes_lone rest high [] e h = ap bytes_word e ∙ bytes_odd high
bytes_lone rest high (low ∷ further) e h = absurd (omega arith)

pub bytes_bad : (rest : Text) (high low : ℕ) (further last : Text) → rest ≡ high ∷ further → further ≡ low ∷ last → byte_of high low ≡ None → bytes_word rest ≡ None
bytes_bad rest high low further last e f none =
    ap bytes_word (e ∙ ap (λ bytes. high ∷ bytes) f) ∙ bytes_step high low last
    ∙ ap (option_and_then (λ byte. option_map (λ bytes. byte ∷ bytes) (bytes_word last))) none

pub joined : (read more : List ℕ) (byte : ℕ) (last : Option (List ℕ)) → more ≡ read ++ byte ∷ [] →
    option_map (λ bytes. read ++ bytes) (option_map (λ bytes. byte ∷ bytes) last) ≡ option_map (λ bytes. more ++ bytes) last
joined read more byte None e = refl
joined read more byte (Some last) e = rw e (ap Some (sym (append_assoc read (byte ∷ []) last)))

pub bytes_more : (all : Option (List ℕ)) (read more : List ℕ) (rest : Text) (high low byte : ℕ) (further last : Text) → all ≡ option_map (λ bytes. read ++ bytes) (bytes_word rest) →
    rest ≡ high ∷ further → further ≡ low ∷ last → byte_of high low ≡ Some byte → more ≡ read ++ byte ∷ [] → all ≡ option_map (λ bytes. more ++ bytes) (bytes_word last)
bytes_more all read more rest high low byte further last so e f some is_more =
    let here : bytes_word rest ≡ option_map (λ bytes. byte ∷ bytes) (bytes_word last) =
    ap bytes_word (e ∙ ap (λ bytes. high ∷ bytes) f) ∙ bytes_step high low last
    ∙ ap (option_and_then (λ byte. option_map (λ bytes. byte ∷ bytes) (bytes_word last))) some in
    so ∙ ap (option_map (λ bytes. read ++ bytes)) here ∙ joined read more byte (bytes_word last) is_more

pub bytes_none : (all : Option (List ℕ)) (read : List ℕ) (rest : Text) → all ≡ option_map (λ bytes. read ++ bytes) (bytes_word rest) → bytes_word rest ≡ None → None ≡ all
bytes_none all read rest so none = sym (so ∙ ap (option_map (λ bytes. read ++ bytes)) none)

pub bytes_all : (all : Option (List ℕ)) (read : List ℕ) (rest : Text) → all ≡ option_map (λ bytes. read ++ bytes) (bytes_word rest) → length rest ≡ 0 → Some read ≡ all
bytes_all all read [] so h = sym (so ∙ ap (option_map (λ bytes. read ++ bytes)) bytes_end ∙ ap Some (append-nil read))
bytes_all all read (byte ∷ rest) so h = absurd (omega arith)

-- a packet's bytes: too few digits, a pair that has no value, or too many
few_bytes : (all last : Option (List ℕ)) (read : List ℕ) → all ≡ option_map (λ bytes. read ++ bytes) last → (last ≡ Some []) ⊎ (last ≡ None) → length read < 64 →
    option_and_then (λ bytes. if length bytes == 64 then Some bytes else None) all ≡ None
few_bytes all last read so (inl end) few =
    let other : (length (read ++ []) == 64) ≡ false = grind (arith, nat_tests, length-append read []) in
    rw (so, end) (rw other refl)
few_bytes all last read so (inr none) few = rw (so, none) refl

short_bytes : (rest : Text) → length rest < 2 → (bytes_word rest ≡ Some []) ⊎ (bytes_word rest ≡ None)
short_bytes [] few = inl bytes_end
short_bytes (high ∷ []) few = inr (bytes_odd high)
short_bytes (high ∷ low ∷ rest) few = absurd (omega (arith, few))

pub packet_short : (word filled rest : List ℕ) (place : ℕ) → bytes_word word ≡ option_map (λ bytes. take place filled ++ bytes) (bytes_word rest) →
    length rest < 2 → place < 64 → length filled ≡ 64 → packet_word word ≡ None
packet_short word filled rest place so few less full =
    few_bytes (bytes_word word) (bytes_word rest) (take place filled) so (short_bytes rest few) (omega (arith, less, length-take-le place filled (omega (arith, less, full))))

packet_bad : (word filled rest : List ℕ) (place : ℕ) → bytes_word word ≡ option_map (λ bytes. take place filled ++ bytes) (bytes_word rest) →
    bytes_word rest ≡ None → packet_word word ≡ None
packet_bad word filled rest place so none = rw (so, none) refl

-- bytes of digits that are there are not none
many_bytes : (read : List ℕ) (byte : Option ℕ) (last : Option (List ℕ)) → length read ≡ 64 →
    option_and_then (λ bytes. if length bytes == 64 then Some bytes else None)
    (option_map (λ bytes. read ++ bytes) (option_and_then (λ byte. option_map (λ bytes. byte ∷ bytes) last) byte)) ≡ None
many_bytes read None last full = refl
many_bytes read (Some byte) None full = refl
many_bytes read (Some byte) (Some last) full =
    let other : (length (read ++ byte ∷ last) == 64) ≡ false = grind (arith, nat_tests, length-append read (byte ∷ last)) in rw other refl

long_bytes : (read : List ℕ) (rest : Text) → length read ≡ 64 → 0 < length rest →
    option_and_then (λ bytes. if length bytes == 64 then Some bytes else None) (option_map (λ bytes. read ++ bytes) (bytes_word rest)) ≡ None
long_bytes read [] full some = absurd (omega (arith, some))
long_bytes read (high ∷ []) full some = rw (bytes_odd high) refl
long_bytes read (high ∷ low ∷ rest) full some = rw (bytes_step high low rest) (many_bytes read (byte_of high low) (bytes_word rest) full)

pub packet_long : (word filled rest : List ℕ) (place : ℕ) → place ≡ 64 → bytes_word word ≡ option_map (λ bytes. take place filled ++ bytes) (bytes_word rest) →
    length filled ≡ 64 → 0 < length rest → packet_word word ≡ None
packet_long word filled rest place done so full some =
    rw so (long_bytes (take place filled) rest (length-take-le place filled (omega (arith, done, full)) ∙ done) some)

pub packet_whole : (word filled rest : List ℕ) (place : ℕ) → place ≡ 64 → bytes_word word ≡ option_map (λ bytes. take place filled ++ bytes) (bytes_word rest) →
    length filled ≡ 64 → length rest ≡ 0 → packet_word word ≡ Some filled
packet_whole word filled [] place done so full none =
    let whole : take place filled ++ [] ≡ filled = append-nil (take place filled) ∙ take_all place filled (omega (arith, done, full)) in
    let fits : (length filled == 64) ≡ true = grind (arith, nat_tests, full) in
    rw (so, bytes_end) (rw whole (rw fits refl))
packet_whole word filled (high ∷ rest) place done so full none = absurd (omega (arith, none))

-- a pair of digits more
pub packet_more : (word filled fuller rest last : List ℕ) (place high low byte : ℕ) → bytes_word word ≡ option_map (λ bytes. take place filled ++ bytes) (bytes_word rest) →
    rest ≡ high ∷ low ∷ last → byte_of high low ≡ Some byte → fuller ≡ set filled place byte → place < length filled →
    bytes_word word ≡ option_map (λ bytes. take (place + 1) fuller ++ bytes) (bytes_word last)
packet_more word filled fuller rest last place high low byte so e some is_set less =
    bytes_more (bytes_word word) (take place filled) (take (place + 1) fuller) rest high low byte (low ∷ last) last so e refl some
    (ap (take (place + 1)) is_set ∙ take_more_set filled place byte less)

pub packet_pair : (word filled rest last : List ℕ) (place high low : ℕ) → bytes_word word ≡ option_map (λ bytes. take place filled ++ bytes) (bytes_word rest) →
    rest ≡ high ∷ low ∷ last → byte_of high low ≡ None → packet_word word ≡ None
packet_pair word filled rest last place high low so e none = packet_bad word filled rest place so (bytes_bad rest high low (low ∷ last) last e refl none)

-- a text has a word at least, so words are left where a blank is
pub left_over : {X : Type 0} (x : X) (word bytes : Text) → done (Some (x, words_from word bytes)) ≡ None
left_over x word [] = ap (λ words. done (Some (x, words))) (words_end word)
left_over x word (byte ∷ bytes) = by_test (is_blank byte) refl (left_over x (word ++ byte ∷ []) bytes)
  where
    by_test : (blank : Bool) → is_blank byte ≡ blank → done (Some (x, words_from (word ++ byte ∷ []) bytes)) ≡ None → done (Some (x, words_from word (byte ∷ bytes))) ≡ None
    by_test true e more = ap (λ words. done (Some (x, words))) (at_blank word byte bytes e)
    by_test false e more = ap (λ words. done (Some (x, words))) (past_blank word byte bytes e) ∙ more
