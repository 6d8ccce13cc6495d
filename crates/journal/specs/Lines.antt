-- The lines of a journal: a head, an entry a line, and an end, each with the digest of the line before and its own text (own).
use Rattle.std.specs.Prelude.{ℕ, ◌+◌, ◌-◌, Bool, List, [], ◌∷◌, ◌++◌, length, take, drop, codes, decimal, Option, Some, None, option_and_then, option_map, Result, Ok, Err, bytes_eq, is_some, nat_lt, if◌then◌else◌}
use Rattle.sha2.specs.Sha256.{sha256}
use Rattle.core_model.specs.declared.entry.Entry.{Entry}
use Rattle.journal.specs.declared.chain.Chain.{Chain}
use Rattle.journal.specs.declared.chain.Head.{Head}
use Rattle.journal.specs.declared.faults.HeadFault.{HeadFault}
use Rattle.journal.specs.declared.faults.HeadFault.TheVariants as head_fault
use Rattle.journal.specs.declared.faults.LineFault.{LineFault}
use Rattle.journal.specs.declared.faults.LineCause.TheVariants as cause
use Rattle.journal.specs.Words.{Text, Word, Number, Bytes, Reading, and_then, behind_blanks, number_at, text_of_bytes, word_at, words_from}
use Rattle.journal.specs.Entries.{text_of_entry, words_of_list}
use Rattle.journal.specs.Readings.{done, entry_at}

-- the digest of a line: of the digest of the line before, and of the line's own text (FIPS 180-4, SHA-256)
unfoldable pub digest_of : List ℕ → Text → List ℕ
digest_of last text = sha256 (last ++ text)

-- a line without its line feed: its text, and its digest behind a blank
abbrev pub line : List ℕ → Text → Text
line last text = text ++ 32 ∷ text_of_bytes (digest_of last text)

-- the text of an entry's line: its number, and its words
abbrev pub numbered : ℕ → Entry → Text
numbered number entry = decimal number ++ text_of_entry entry

-- where a journal stands behind a line of the next entry, of this text
abbrev pub behind_text : Chain → Text → Chain
behind_text chain text = record { digest = digest_of chain.digest text; number = chain.number + 1 }

-- where a journal stands behind an entry
abbrev pub after : Chain → Entry → Chain
after chain entry = behind_text chain (numbered (chain.number + 1) entry)

-- the line of an entry, where a journal stands so
abbrev pub entry_line : Chain → Entry → Text
entry_line chain entry = line chain.digest (numbered (chain.number + 1) entry)

-- the lines of entries, each ended by a line feed
unfoldable pub entry_lines : Chain → List Entry → Text
entry_lines chain [] = []
entry_lines chain (entry ∷ entries) = entry_line chain entry ++ 10 ∷ entry_lines (after chain entry) entries

-- what a head tells: the audit's room, how many entries came before, and the digests of the policies
abbrev pub words_of_head : Head → List Word
words_of_head head = Number 64 head.capacity ∷ Number 64 head.before ∷ words_of_list (λ digest. Bytes digest ∷ []) head.policies

-- the text of a head, behind the version of the form
abbrev pub text_of_head : Head → Text
text_of_head head = codes "journal 1" ++ behind_blanks (words_of_head head)

-- where a journal stands behind its head
abbrev pub behind_head : Head → Chain
behind_head head = record { digest = digest_of [] (text_of_head head); number = head.before }

-- the text of the last line: the number of the last entry
abbrev pub text_of_end : Chain → Text
text_of_end chain = codes "end " ++ decimal chain.number

-- ---- reading

-- the text of a line, if its digest is that of the line before and of this text
abbrev pub line_text : List ℕ → Text → Option Text
line_text last bytes =
    if nat_lt (length bytes) 65 then None
    else if bytes_eq (drop (length bytes - 65) bytes) (32 ∷ text_of_bytes (digest_of last (take (length bytes - 65) bytes))) then Some (take (length bytes - 65) bytes)
    else None

-- the entry of this number, if the words begin with it
abbrev pub entry_behind_number : ℕ → List Text → Option Entry
entry_behind_number number [] = None
entry_behind_number number (word ∷ words) = if bytes_eq word (decimal number) then done (entry_at words) else None

-- the next entry of a text, and where the journal stands behind it
abbrev pub entry_of_text : Chain → Text → Option (Entry × Chain)
entry_of_text chain text = option_map (λ entry. (entry, behind_text chain text)) (entry_behind_number (chain.number + 1) (words_from [] text))

-- the next entry of a line, where a journal stands so, and where it stands behind that
abbrev pub entry_of_line : Chain → Text → Option (Entry × Chain)
entry_of_line chain bytes = option_and_then (entry_of_text chain) (line_text chain.digest bytes)

-- ---- heads and ends

-- the capacity, and how many entries came before, of a head of this version
abbrev pub numbers_at : List Text → Reading (ℕ × ℕ)
numbers_at words = and_then (number_at 64 words) (λ capacity rest. and_then (number_at 64 rest) (λ before last. Some ((capacity, before), last)))

-- they stand behind the version's number
abbrev pub version_at : List Text → Reading (ℕ × ℕ)
version_at words = and_then (word_at words) (λ word rest. if bytes_eq word (codes "1") then numbers_at rest else None)

-- and that behind the form's name
abbrev pub numbers_in : List Text → Option (ℕ × ℕ)
numbers_in [] = None
numbers_in (word ∷ words) = if bytes_eq word (codes "journal") then option_map (λ read. read.0) (version_at words) else None

-- the head of a text, if it is that of a journal over just these policies
abbrev pub head_over : List (List ℕ) → Text → ℕ × ℕ → Result Head HeadFault
head_over policies text numbers =
    if bytes_eq text (text_of_head (record { capacity = numbers.0; before = numbers.1; policies = policies }))
    then Ok (record { capacity = numbers.0; before = numbers.1; policies = policies }) else Err head_fault.OtherPolicies

-- the head of a text
abbrev pub head_in : List (List ℕ) → Text → Result Head HeadFault
head_in policies text = elim (numbers_in (words_from [] text)) [ None ↦ Err head_fault.NoHead | Some numbers ↦ head_over policies text numbers ]

-- the head of a journal over these policies, of its first line
abbrev pub head_of_line : List (List ℕ) → Text → Result Head HeadFault
head_of_line policies bytes = elim (line_text [] bytes) [ None ↦ Err head_fault.OtherDigest | Some text ↦ head_in policies text ]

-- whether a line is the last of a journal that stands so
abbrev pub is_end : Chain → Text → Bool
is_end chain bytes = bytes_eq bytes (line chain.digest (text_of_end chain))

-- ---- faults

-- another number stands at the beginning of a line, or none
abbrev pub other_number : Option LineFault
other_number = Some (record { cause = cause.OtherNumber; column = 1 })

-- what stands behind this word, which is the number, is an entry, or isn't
abbrev pub unless_entry : Text → Bool → Option LineFault
unless_entry word is = if is then None else Some (record { cause = cause.NoEntry; column = length word + 2 })

-- why a text with a good digest is no entry of this number
abbrev pub fault_behind : ℕ → Text → List Text → Option LineFault
fault_behind number text [] = other_number
fault_behind number text (word ∷ words) = if bytes_eq word (decimal number) then unless_entry word (is_some (done (entry_at words))) else other_number

-- the digest of a line is another, or is that of this text
abbrev pub fault_in : Chain → Text → Option Text → Option LineFault
fault_in chain bytes None = Some (record { cause = cause.OtherDigest; column = length bytes - 63 })
fault_in chain bytes (Some text) = fault_behind (chain.number + 1) text (words_from [] text)

-- a line is too short for a digest
abbrev pub no_digest : Text → Option LineFault
no_digest bytes = Some (record { cause = cause.NoDigest; column = length bytes + 1 })

-- why a line isn't that of the next entry, and at which byte, from 1: its digest is missing or another, its number is another, or what
-- stands behind its number is no entry
abbrev pub fault_of_line : Chain → Text → Option LineFault
fault_of_line chain bytes = if nat_lt (length bytes) 65 then no_digest bytes else fault_in chain bytes (line_text chain.digest bytes)
