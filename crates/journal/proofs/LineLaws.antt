-- The lines of a journal are read as they were written, and lists of entries of the same lines are one.
use Rattle.std.proofs.Common.{◌≡◌, ℕ, zero, suc, ◌+◌, ◌-◌, ◌*◌, ◌<◌, Bool, true, false, List, [], ◌∷◌, ◌++◌, length, map, take, drop, Option, Some, None, Ok, Err, refl, sym, ap, ◌∙◌, arith, append_assoc, append-nil, length-append}
use Rattle.std.specs.Prelude.{◌^◌, nat_lt, codes, decimal, ◌==◌, bytes_eq, is_some, option_map, option_and_then, if◌then◌else◌}
use Rattle.std.specs.List.{list_all}
use Rattle.std.proofs.lemmas.Bool.Decides.{nat_tests}
use Rattle.std.proofs.lemmas.List.{append_cancel_left}
use Rattle.std.proofs.Math.Seq.{drop-append_seam, take-append_seam}
use Rattle.sha2.specs.Sha256.{digest_bytes, final_hash, initial_hash_256, sha256}
use Rattle.core_model.specs.declared.entry.Entry.{Entry}
use Rattle.journal.specs.declared.chain.Chain.{Chain}
use Rattle.journal.specs.declared.chain.Head.{Head}
use Rattle.journal.specs.declared.faults.HeadFault.TheVariants as head_fault
use Rattle.journal.specs.declared.faults.LineFault.{LineFault}
use Rattle.journal.specs.Words.{Text, Word, Name, Number, Bytes, Reading, text_of, text_of_bytes, behind_blanks, fits, has_no_blank, words_from}
use Rattle.journal.specs.Entries.{all_fit, fit, words_of_entry, words_of_list}
use Rattle.journal.specs.Readings.{done, entry_at}
use Rattle.journal.specs.Lines.{digest_of, line, numbered, after, entry_line, entry_lines, line_text, behind_text, entry_behind_number, entry_of_line, entry_of_text, fault_behind, fault_in, fault_of_line, head_in, head_of_line, head_over, is_end, no_digest, numbers_in, other_number, text_of_end, text_of_head, unless_entry, words_of_head}
use Rattle.journal.proofs.WordSteps.{at_blank}
use Rattle.journal.proofs.WordLaws.{both_first, both_second, bytes_no_blank, decimal_no_blank, number_read, past_word, split_as_written, word_no_blank}
use Rattle.journal.proofs.EntryLaws.{told, entry_read}

-- what stands behind the text of a line: its digest behind a blank, a line feed, and further lines
abbrev tail : List ℕ → Text → Text
tail digest rest = 32 ∷ (text_of_bytes digest ++ (10 ∷ rest))

-- a text, words behind blanks, and a tail, are split into just these
split_line : (t : Text) (ws : List Word) (digest : List ℕ) (rest : Text) → has_no_blank t ≡ true → list_all fits ws ≡ true →
    words_from [] ((t ++ behind_blanks ws) ++ tail digest rest) ≡ t ∷ told ws (text_of_bytes digest ∷ words_from [] rest)
split_line t [] digest rest h all =
    let last : words_from [] (text_of_bytes digest ++ (10 ∷ rest)) ≡ text_of_bytes digest ∷ words_from [] rest =
    past_word [] (text_of_bytes digest) (10 ∷ rest) (bytes_no_blank digest) ∙ at_blank (text_of_bytes digest) 10 rest refl in
    ap (λ front. words_from [] (front ++ tail digest rest)) (append-nil t)
    ∙ past_word [] t (tail digest rest) h ∙ at_blank t 32 (text_of_bytes digest ++ (10 ∷ rest)) refl ∙ ap (λ words. t ∷ words) last
split_line t (w ∷ ws) digest rest h all =
    let first : fits w ≡ true = both_first (fits w) (list_all fits ws) all in
    let more : words_from [] ((text_of w ++ behind_blanks ws) ++ tail digest rest) ≡ text_of w ∷ told ws (text_of_bytes digest ∷ words_from [] rest) =
    split_line (text_of w) ws digest rest (word_no_blank w first) (both_second (fits w) (list_all fits ws) all) in
    ap (words_from []) (append_assoc t (32 ∷ (text_of w ++ behind_blanks ws)) (tail digest rest))
    ∙ past_word [] t (32 ∷ ((text_of w ++ behind_blanks ws) ++ tail digest rest)) h
    ∙ at_blank t 32 ((text_of w ++ behind_blanks ws) ++ tail digest rest) refl ∙ ap (λ words. t ∷ words) more

-- ---- lists of entries

pub lines_none : (chain : Chain) → entry_lines chain [] ≡ []
unfolding entry_lines
lines_none chain = refl

pub lines_more : (chain : Chain) (entry : Entry) (entries : List Entry) →
    entry_lines chain (entry ∷ entries) ≡ entry_line chain entry ++ 10 ∷ entry_lines (after chain entry) entries
unfolding entry_lines
lines_more chain entry entries = refl

line_is_some : (chain : Chain) (entry : Entry) (rest : Text) → chain.number + 1 < 2 ^ 64 → [] ≡ entry_line chain entry ++ 10 ∷ rest → ⊥
line_is_some chain entry rest small e =
    let none : 0 ≡ length (entry_line chain entry ++ 10 ∷ rest) = ap length e in
    omega (arith, none, length-append (entry_line chain entry) (10 ∷ rest))

-- the words of an entry's line, and of what follows it
words_of_line : (chain : Chain) (entry : Entry) (rest : Text) → chain.number + 1 < 2 ^ 64 → fit (words_of_entry entry) ≡ true →
    words_from [] (entry_line chain entry ++ 10 ∷ rest)
    ≡ decimal (chain.number + 1) ∷ told (words_of_entry entry) (text_of_bytes (digest_of chain.digest (numbered (chain.number + 1) entry)) ∷ words_from [] rest)
words_of_line chain entry rest small f =
    ap (words_from []) (append_assoc (numbered (chain.number + 1) entry) (32 ∷ text_of_bytes (digest_of chain.digest (numbered (chain.number + 1) entry))) (10 ∷ rest))
    ∙ split_line (decimal (chain.number + 1)) (words_of_entry entry) (digest_of chain.digest (numbered (chain.number + 1) entry)) rest
    (decimal_no_blank (chain.number + 1) small) f

abbrev behind_first : List Text → List Text
behind_first [] = []
behind_first (word ∷ words) = words

same_found : (one other : Entry) → Some one ≡ Some other → one ≡ other
same_found one other e = cc

first_read : (one other : Entry) (a b : List Text) → ◌≡◌ {A = Reading Entry} (Some (one, a)) (Some (other, b)) → one ≡ other
first_read one other a b e = same_found one other (ap (option_map (λ read. read.0)) e)

first_same : (chain : Chain) (one other : Entry) (a b : Text) → chain.number + 1 < 2 ^ 64 → fit (words_of_entry one) ≡ true → fit (words_of_entry other) ≡ true →
    entry_line chain one ++ 10 ∷ a ≡ entry_line chain other ++ 10 ∷ b → one ≡ other
first_same chain one other a b small f g e =
    let words : _ ≡ _ = sym (words_of_line chain one a small f) ∙ ap (words_from []) e ∙ words_of_line chain other b small g in
    first_read one other _ _ (sym (entry_read one _ f) ∙ ap (λ all. entry_at (behind_first all)) words ∙ entry_read other _ g)

abbrev behind_byte : Text → Text
behind_byte [] = []
behind_byte (byte ∷ bytes) = bytes

-- two lists of entries that have the same lines are one, where the numbers have 64 bits
pub lines_apart : (chain : Chain) (one other : List Entry) → all_fit one ≡ true → all_fit other ≡ true → chain.number + length one < 2 ^ 64 → chain.number + length other < 2 ^ 64 →
    entry_lines chain one ≡ entry_lines chain other → one ≡ other
lines_apart chain [] [] f g small few e = refl
lines_apart chain [] (entry ∷ entries) f g small few e =
    absurd (line_is_some chain entry (entry_lines (after chain entry) entries) (omega (arith, few)) (sym (lines_none chain) ∙ e ∙ lines_more chain entry entries))
lines_apart chain (entry ∷ entries) [] f g small few e =
    absurd (line_is_some chain entry (entry_lines (after chain entry) entries) (omega (arith, small)) (sym (lines_none chain) ∙ sym e ∙ lines_more chain entry entries))
lines_apart chain (a ∷ one) (b ∷ other) f g small few e =
    let fa : fit (words_of_entry a) ≡ true = both_first (fit (words_of_entry a)) (all_fit one) f in
    let fb : fit (words_of_entry b) ≡ true = both_first (fit (words_of_entry b)) (all_fit other) g in
    let both : entry_line chain a ++ 10 ∷ entry_lines (after chain a) one ≡ entry_line chain b ++ 10 ∷ entry_lines (after chain b) other =
    sym (lines_more chain a one) ∙ e ∙ lines_more chain b other in
    let same : a ≡ b = first_same chain a b (entry_lines (after chain a) one) (entry_lines (after chain b) other) (omega (arith, small)) fa fb both in
    let rest : 10 ∷ entry_lines (after chain a) one ≡ 10 ∷ entry_lines (after chain a) other =
    append_cancel_left (entry_line chain a) (10 ∷ entry_lines (after chain a) one) (10 ∷ entry_lines (after chain a) other)
    (both ∙ ap (λ entry. entry_line chain entry ++ 10 ∷ entry_lines (after chain entry) other) (sym same)) in
    let behind : one ≡ other =
    lines_apart (after chain a) one other (both_second (fit (words_of_entry a)) (all_fit one) f) (both_second (fit (words_of_entry b)) (all_fit other) g)
    (omega (arith, small)) (omega (arith, few)) (ap behind_byte rest) in
    rw (same, behind) refl

-- ---- one line

digest_length : (h : List ℕ) (n : ℕ) → length (digest_bytes h n) ≡ 4 * n
unfolding digest_bytes
digest_length h zero = refl
digest_length h (suc n) = length-append (digest_bytes h n) _ ∙ omega (arith, digest_length h n)

digits_length : (bs : List ℕ) → length (text_of_bytes bs) ≡ 2 * length bs
digits_length [] = refl
digits_length (b ∷ bs) = omega (arith, digits_length bs)

tail_length : (last : List ℕ) (text : Text) → length (32 ∷ text_of_bytes (digest_of last text)) ≡ 65
unfolding digest_of sha256
tail_length last text =
    let digest : length (sha256 (last ++ text)) ≡ 32 = digest_length (final_hash initial_hash_256 (last ++ text)) 8 in
    omega (arith, digits_length (sha256 (last ++ text)), digest)

same_bytes : (bs : List ℕ) → bytes_eq bs bs ≡ true
same_bytes [] = refl
same_bytes (b ∷ bs) =
    let first : (b == b) ≡ true = grind (arith, nat_tests) in
    rw first (same_bytes bs)

line_text_read : (last : List ℕ) (text : Text) → line_text last (line last text) ≡ Some text
line_text_read last text =
    let long : length (line last text) ≡ length text + 65 =
    length-append text (32 ∷ text_of_bytes (digest_of last text)) ∙ ap (λ n. length text + n) (tail_length last text) in
    let cut : length (line last text) - 65 ≡ length text = omega (arith, long) in
    let enough : nat_lt (length (line last text)) 65 ≡ false = grind (arith, nat_tests) in
    let front : take (length text) (line last text) ≡ text = take-append_seam text (32 ∷ text_of_bytes (digest_of last text)) in
    let back : drop (length text) (line last text) ≡ 32 ∷ text_of_bytes (digest_of last text) = drop-append_seam text (32 ∷ text_of_bytes (digest_of last text)) in
    rw (enough, cut, front, back) (rw (same_bytes (32 ∷ text_of_bytes (digest_of last text))) refl)

-- the line of an entry is read as that entry, where its number has 64 bits
pub line_read : (chain : Chain) (entry : Entry) → chain.number + 1 < 2 ^ 64 → fit (words_of_entry entry) ≡ true →
    entry_of_line chain (entry_line chain entry) ≡ Some (entry, after chain entry)
line_read chain entry small f =
    let words : words_from [] (numbered (chain.number + 1) entry) ≡ decimal (chain.number + 1) ∷ map text_of (words_of_entry entry) =
    split_as_written (decimal (chain.number + 1)) (words_of_entry entry) (decimal_no_blank (chain.number + 1) small) f in
    let whole : told (words_of_entry entry) [] ≡ map text_of (words_of_entry entry) = append-nil (map text_of (words_of_entry entry)) in
    let read : entry_at (map text_of (words_of_entry entry)) ≡ Some (entry, []) = ap entry_at (sym whole) ∙ entry_read entry [] f in
    let found : entry_behind_number (chain.number + 1) (decimal (chain.number + 1) ∷ map text_of (words_of_entry entry)) ≡ Some entry =
    rw (same_bytes (decimal (chain.number + 1))) (ap done read) in
    ap (option_and_then (entry_of_text chain)) (line_text_read chain.digest (numbered (chain.number + 1) entry))
    ∙ ap (option_map (λ read. (read, after chain entry))) (ap (entry_behind_number (chain.number + 1)) words ∙ found)

-- ---- heads, ends and faults

-- the head of a journal is read as it was written, over the policies that it tells
pub head_read : (head : Head) → fit (words_of_head head) ≡ true → head_of_line head.policies (line [] (text_of_head head)) ≡ Ok head
head_read head f =
    let capacity : fits (Number 64 head.capacity) ≡ true = both_first (fits (Number 64 head.capacity)) _ f in
    let behind : fit (Number 64 head.before ∷ words_of_list (λ digest. Bytes digest ∷ []) head.policies) ≡ true = both_second (fits (Number 64 head.capacity)) _ f in
    let before : fits (Number 64 head.before) ≡ true = both_first (fits (Number 64 head.before)) _ behind in
    let words : words_from [] (text_of_head head) ≡ codes "journal" ∷ map text_of (Name (codes "1") ∷ words_of_head head) =
    split_as_written (codes "journal") (Name (codes "1") ∷ words_of_head head) refl f in
    let numbers : numbers_in (words_from [] (text_of_head head)) ≡ Some (head.capacity, head.before) =
    ap numbers_in words ∙ rw (number_read 64 head.capacity capacity, number_read 64 head.before before) refl in
    ap (λ found. elim found [ None ↦ Err head_fault.OtherDigest | Some text ↦ head_in head.policies text ]) (line_text_read [] (text_of_head head))
    ∙ ap (λ found. elim found [ None ↦ Err head_fault.NoHead | Some read ↦ head_over head.policies (text_of_head head) read ]) numbers
    ∙ rw (same_bytes (text_of_head head)) refl

-- and so is its end
pub end_read : (chain : Chain) → is_end chain (line chain.digest (text_of_end chain)) ≡ true
end_read chain = same_bytes (line chain.digest (text_of_end chain))

-- a line has a fault just where it isn't read as an entry
behind_fault : (number : ℕ) (text : Text) (words : List Text) (fault : LineFault) → fault_behind number text words ≡ Some fault → entry_behind_number number words ≡ None
behind_fault number text [] fault e = refl
behind_fault number text (word ∷ words) fault e = by_number (bytes_eq word (decimal number)) (done (entry_at words)) e
  where
    by_number : (b : Bool) (read : Option Entry) → (if b then unless_entry word (is_some read) else other_number) ≡ Some fault → (if b then read else None) ≡ None
    by_number true None same = refl
    by_number true (Some entry) same = absurd cc
    by_number false read same = refl

behind_read : (number : ℕ) (text : Text) (words : List Text) → fault_behind number text words ≡ None → (entry : Entry) × (entry_behind_number number words ≡ Some entry)
behind_read number text [] e = absurd cc
behind_read number text (word ∷ words) e = by_number (bytes_eq word (decimal number)) (done (entry_at words)) e
  where
    by_number : (b : Bool) (read : Option Entry) → (if b then unless_entry word (is_some read) else other_number) ≡ None → (entry : Entry) × ((if b then read else None) ≡ Some entry)
    by_number true None same = absurd cc
    by_number true (Some entry) same = (entry, refl)
    by_number false read same = absurd cc

short_unread : (chain : Chain) (bytes : Text) → nat_lt (length bytes) 65 ≡ true → entry_of_line chain bytes ≡ None
short_unread chain bytes short = rw short refl

long_line : (chain : Chain) (bytes : Text) → nat_lt (length bytes) 65 ≡ false → fault_of_line chain bytes ≡ fault_in chain bytes (line_text chain.digest bytes)
long_line chain bytes long = ap (λ b. if b then no_digest bytes else fault_in chain bytes (line_text chain.digest bytes)) long

short_line : (chain : Chain) (bytes : Text) → nat_lt (length bytes) 65 ≡ true → fault_of_line chain bytes ≡ no_digest bytes
short_line chain bytes short = ap (λ b. if b then no_digest bytes else fault_in chain bytes (line_text chain.digest bytes)) short

text_fault : (chain : Chain) (bytes : Text) (fault : LineFault) (found : Option Text) → fault_in chain bytes found ≡ Some fault → option_and_then (entry_of_text chain) found ≡ None
text_fault chain bytes fault None same = refl
text_fault chain bytes fault (Some text) same = ap (option_map (λ entry. (entry, behind_text chain text))) (behind_fault (chain.number + 1) text (words_from [] text) fault same)

text_read : (chain : Chain) (bytes : Text) (found : Option Text) → fault_in chain bytes found ≡ None → (read : Entry × Chain) × (option_and_then (entry_of_text chain) found ≡ Some read)
text_read chain bytes None same = absurd cc
text_read chain bytes (Some text) same =
    let there = behind_read (chain.number + 1) text (words_from [] text) same in
    ((there.0, behind_text chain text), ap (option_map (λ entry. (entry, behind_text chain text))) there.1)

pub fault_told : (chain : Chain) (bytes : Text) (fault : LineFault) → fault_of_line chain bytes ≡ Some fault → entry_of_line chain bytes ≡ None
fault_told chain bytes fault e = by_length (nat_lt (length bytes) 65) refl
  where
    by_length : (b : Bool) → nat_lt (length bytes) 65 ≡ b → entry_of_line chain bytes ≡ None
    by_length true short = short_unread chain bytes short
    by_length false long = text_fault chain bytes fault (line_text chain.digest bytes) (sym (long_line chain bytes long) ∙ e)

pub no_fault_read : (chain : Chain) (bytes : Text) → fault_of_line chain bytes ≡ None → (read : Entry × Chain) × (entry_of_line chain bytes ≡ Some read)
no_fault_read chain bytes e = by_length (nat_lt (length bytes) 65) refl
  where
    by_length : (b : Bool) → nat_lt (length bytes) 65 ≡ b → (read : Entry × Chain) × (entry_of_line chain bytes ≡ Some read)
    by_length true short = let no : no_digest bytes ≡ None = sym (short_line chain bytes short) ∙ e in absurd cc
    by_length false long = text_read chain bytes (line_text chain.digest bytes) (sym (long_line chain bytes long) ∙ e)
