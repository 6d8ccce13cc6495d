-- A journal: a head, and entries in blocks, each with its digest (own; SHA-512 of FIPS 180-4).
use Rattle.std.specs.Prelude.{ℕ, ◌+◌, ◌-◌, ◌^◌, nat_le, Bool, List, [], ◌∷◌, ◌++◌, length, codes, map, if◌then◌else◌}
use Rattle.sha2.specs.Sha512.{sha512}
use Rattle.core_model.specs.declared.entry.Entry.{Entry}
use Rattle.packed_journal.specs.declared.heads.Head.{Head}
use Rattle.packed_journal.specs.Words.{Word, Number, Digest, packed_number}
use Rattle.packed_journal.specs.Readings.{bytes_of}
use Rattle.packed_journal.specs.Entries.{form_of_entry}

-- ---- the head

-- a journal's name, which the text form began with as well
abbrev pub name : List ℕ
name = codes "journal"

-- the version, the digest of the policy's text, and the audit's room; the text form, which went on with ` 1`, was the first
abbrev pub words_of_head : Head → List Word
words_of_head head = Number 64 2 ∷ Digest head.policy ∷ Number 64 head.room ∷ []

abbrev pub form_of_head : Head → List ℕ
form_of_head head = name ++ bytes_of (words_of_head head)

-- ---- blocks

-- where a journal stands in a block: what its digest is over so far, how many bytes its entries have, and the last entry's number
pub record Place : Type 0 where
  pub told : List ℕ
  pub filled : ℕ
  pub number : ℕ

-- a block begins with the number of its first entry; its digest is over the digest before it, and all of the block
abbrev pub begins : List ℕ → ℕ → Place
begins digest number = record { told = digest ++ packed_number (number + 1); filled = 0; number = number }

-- with the form of one entry more
abbrev pub with_form : Place → List ℕ → Place
with_form place form = record { told = place.told ++ form; filled = place.filled + length form; number = place.number + 1 }

-- a block's end: a mark, which no entry begins with, how many bytes its entries have, and its digest
abbrev pub mark : Place → List ℕ
mark place = 0 ∷ packed_number place.filled

unfoldable pub digest_of : Place → List ℕ
digest_of place = sha512 (place.told ++ mark place)

abbrev pub end_of : Place → List ℕ
end_of place = mark place ++ digest_of place

-- a block ends behind the entry with which its entries reach 65,536 bytes
abbrev pub is_full : Place → Bool
is_full place = nat_le 65536 place.filled

-- a block's end, and the beginning of the next
abbrev pub turn_of : Place → List ℕ
turn_of place = end_of place ++ packed_number (place.number + 1)

-- what stands behind an entry, where its block is full
abbrev pub between : Place → List ℕ
between place = if is_full place then turn_of place else []

abbrev pub onward : Place → Place
onward place = if is_full place then begins (digest_of place) place.number else place

-- an entry, by its form, with what stands behind it
abbrev pub added : Place → List ℕ → List ℕ
added place form = form ++ between (with_form place form)

-- ---- the whole

-- what stands behind a place: entries, by their forms, and the end of the last block, which isn't full
unfoldable pub body : Place → List (List ℕ) → List ℕ
body place [] = end_of place
body place (form ∷ forms) = added place form ++ body (onward (with_form place form)) forms

-- the first block's digest is over that of the head
abbrev pub opening : Head → Place
opening head = begins (sha512 (form_of_head head)) 0

-- a journal's head, and the number of its first entry
abbrev pub beginning : Head → List ℕ
beginning head = form_of_head head ++ packed_number 1

-- the forms of entries, each with the digest of a policy's text, which a reload keeps
abbrev pub forms_of : List (Entry × List ℕ) → List (List ℕ)
forms_of entries = map (λ told. form_of_entry told.0 told.1) entries

abbrev pub journal : Head → List (Entry × List ℕ) → List ℕ
journal head entries = beginning head ++ body (opening head) (forms_of entries)

-- an entry's number and the next one's have 64 bits
abbrev pub is_last : Place → Bool
is_last place = nat_le (2 ^ 64 - 2) place.number
