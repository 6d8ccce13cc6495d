-- How a journal is read, step by step (own).
use Rattle.std.specs.Prelude.{ℕ, zero, suc, ◌==◌, Bool, false, List, [], ◌∷◌, length, Option, Some, None, Result, Ok, Err, if◌then◌else◌}
use Rattle.std.specs.Option.{unwrap_or}
use Rattle.std.specs.List.{list_all}
use denote.Ref.{Bor}
use Rattle.core_model.specs.declared.entry.Entry.{Entry}
use Rattle.packed_journal.specs.declared.unread.Unread.{Unread}
use Rattle.packed_journal.specs.declared.unread.Unread.TheVariants.{Ended, Wrong}
use Rattle.packed_journal.specs.declared.heads.Head.{Head}
use Rattle.packed_journal.specs.declared.stepping.Headless.{Headless}
use Rattle.packed_journal.specs.declared.stepping.Headless.TheVariants as headless
use Rattle.packed_journal.specs.declared.stepping.Step.{Step}
use Rattle.packed_journal.specs.declared.stepping.Step.TheVariants as step
use Rattle.packed_journal.specs.declared.stepping.Halt.{Halt}
use Rattle.packed_journal.specs.declared.stepping.Halt.TheVariants as halt
use Rattle.packed_journal.specs.Words.{packed_number}
use Rattle.packed_journal.specs.Readings.{Read, fit, made, both, read_digest, read_number}
use Rattle.packed_journal.specs.Entries.{form_of_entry, kept_policy, read_entry, words_of_entry}
use Rattle.packed_journal.specs.Journals.{Place, begins, digest_of, end_of, is_full, is_last, name, opening, turn_of, with_form}

-- ---- bytes that must stand there

-- the bytes behind them, or why they don't
unfoldable pub rest_behind : List ℕ → List ℕ → Result (List ℕ) Unread
rest_behind [] bytes = Ok bytes
rest_behind (byte ∷ wanted) [] = Err Ended
rest_behind (byte ∷ wanted) (other ∷ bytes) = if byte == other then rest_behind wanted bytes else Err (Wrong (length (other ∷ bytes)))

-- what a function found behind them
abbrev pub rests : Result (Bor (List ℕ)) Unread → Result (List ℕ) Unread
rests (Ok rest) = Ok rest.now
rests (Err why) = Err why

-- bytes begin with this one
abbrev pub begins_with : ℕ → List ℕ → Bool
begins_with first [] = false
begins_with first (byte ∷ bytes) = byte == first

-- ---- heads

-- what is read of a head
abbrev pub Headed : Type 0 → Type 0
Headed X = Result (X × List ℕ) Headless

abbrev pub if_read : {X : Type 0} → Read X → Headed X
if_read (Ok read) = Ok read
if_read (Err Ended) = Err headless.Cut
if_read (Err (Wrong left)) = Err (headless.Wrong left)

-- what a function found of a head
abbrev pub heads : {X : Type 0} → Result (X × Bor (List ℕ)) Headless → Headed X
heads (Ok read) = Ok (read.0, read.1.now)
heads (Err why) = Err why

-- the digest of a policy's text, and the audit's room
abbrev pub read_told : List ℕ → Read Head
read_told bytes = made (λ r. record { policy = r.0; room = r.1 }) (both read_digest (read_number 64) bytes)

abbrev pub of_version : Headed ℕ → Headed Head
of_version (Err why) = Err why
of_version (Ok read) = if read.0 == 2 then if_read (read_told read.1) else Err (headless.Version read.0)

-- behind a journal's name; the text form has a blank there
abbrev pub behind_name : Result (List ℕ) Unread → Headed Head
behind_name (Err Ended) = Err headless.Cut
behind_name (Err (Wrong left)) = Err headless.NoJournal
behind_name (Ok rest) = if begins_with 32 rest then Err headless.Text else of_version (if_read (read_number 64 rest))

abbrev pub read_head : List ℕ → Headed Head
read_head bytes = behind_name (rest_behind name bytes)

-- a head, and behind it the number of the first entry
abbrev pub if_first : Head → Result (List ℕ) Unread → Headed Head
if_first head (Ok rest) = Ok (head, rest)
if_first head (Err Ended) = Err headless.Cut
if_first head (Err (Wrong left)) = Err (headless.Wrong left)

abbrev pub and_first : Headed Head → Headed Head
and_first (Err why) = Err why
and_first (Ok read) = if_first read.0 (rest_behind (packed_number 1) read.1)

abbrev pub read_beginning : List ℕ → Headed Head
read_beginning bytes = and_first (read_head bytes)

-- what a function found of a beginning, with what it goes on with
abbrev pub begun : {X : Type 0} → Result ((Head × X) × Bor (List ℕ)) Headless → Headed Head
begun (Ok read) = Ok (read.0.0, read.1.now)
begun (Err why) = Err why

-- ---- steps

-- a step, with the bytes behind it, or why there is none
abbrev pub Stepped : Type 0
Stepped = Result (Step × List ℕ) Halt

-- what a function found as a step
abbrev pub steps : Result (Step × Bor (List ℕ)) Halt → Stepped
steps (Ok read) = Ok (read.0, read.1.now)
steps (Err why) = Err why

-- the end of a block, where what must stand there does
abbrev pub if_there : Step → Result (List ℕ) Unread → Stepped
if_there one (Ok rest) = Ok (one, rest)
if_there one (Err Ended) = Err halt.Cut
if_there one (Err (Wrong left)) = Err (halt.Block left)

abbrev pub if_entry : Read (Entry × Option (List ℕ)) → Stepped
if_entry (Ok read) = Ok (step.Entry read.0.0 read.0.1, read.1)
if_entry (Err Ended) = Err halt.Cut
if_entry (Err (Wrong left)) = Err (halt.Entry left)

-- the next step: a full block's end with the next one's beginning, the last block's end, or an entry
abbrev pub read_step : Place → List ℕ → Stepped
read_step place bytes =
    if is_full place then if_there step.Block (rest_behind (turn_of place) bytes)
    else if begins_with 0 bytes then if_there step.End (rest_behind (end_of place) bytes)
    else if is_last place then Err (halt.Entry (length bytes))
    else if_entry (read_entry bytes)

-- where a journal stands behind a step
abbrev pub behind_step : Place → Step → Place
behind_step place (step.Entry entry policy) = with_form place (form_of_entry entry (unwrap_or policy []))
behind_step place step.Block = begins (digest_of place) place.number
behind_step place step.End = place

abbrev pub behind_read : {E : Type 0} → Place → Result (Result (Step × Bor (List ℕ)) Halt) E → Place
behind_read place (Ok (Ok read)) = behind_step place read.0
behind_read place (Ok (Err why)) = place
behind_read place (Err lack) = place

-- where it stands behind the end of a full block, if that stands there
abbrev pub behind_turn : {E : Type 0} → Place → Result (Result (Bor (List ℕ)) Unread) E → Place
behind_turn place (Ok (Ok rest)) = begins (digest_of place) place.number
behind_turn place (Ok (Err why)) = place
behind_turn place (Err lack) = place

-- the bytes of a step
abbrev pub bytes_of_step : Place → Step → List ℕ
bytes_of_step place (step.Entry entry policy) = form_of_entry entry (unwrap_or policy [])
bytes_of_step place step.Block = turn_of place
bytes_of_step place step.End = end_of place

-- ---- the whole

-- an entry as it is read, and of a reload the digest of the policy's text
abbrev pub Told : Type 0
Told = Entry × Option (List ℕ)

-- what is read of entries up to the journal's end
abbrev pub Ending : Type 0
Ending = Result (List Told × List ℕ) Halt

abbrev pub one_more : Told → Ending → Ending
one_more told (Err why) = Err why
one_more told (Ok read) = Ok (told ∷ read.0, read.1)

-- a step, and what is read behind it
abbrev pub with_step : Step → List ℕ → Ending → Ending
with_step (step.Entry entry policy) rest more = one_more (entry, policy) more
with_step step.Block rest more = more
with_step step.End rest more = Ok ([], rest)

abbrev pub and_step : Stepped → (Step → List ℕ → Ending) → Ending
and_step (Err why) next = Err why
and_step (Ok read) next = next read.0 read.1

-- the entries up to the journal's end, by at most so many steps
unfoldable pub read_body : ℕ → Place → List ℕ → Ending
read_body zero place bytes = Err halt.Cut
read_body (suc more) place bytes = and_step (read_step place bytes) (λ one rest. with_step one rest (read_body more (behind_step place one) rest))

-- a whole journal by at most so many steps, with the bytes behind it; none, where it is none
abbrev pub with_head : Head → Ending → Option (Head × (List Told × List ℕ))
with_head head (Err why) = None
with_head head (Ok read) = Some (head, read)

abbrev pub and_body : ℕ → Headed Head → Option (Head × (List Told × List ℕ))
and_body steps (Err why) = None
and_body steps (Ok read) = with_head read.0 (read_body steps (opening read.0) read.1)

abbrev pub read_journal : ℕ → List ℕ → Option (Head × (List Told × List ℕ))
read_journal steps bytes = and_body steps (read_beginning bytes)

-- what is read of an entry that was written with the digest of a policy's text
abbrev pub kept : Entry × List ℕ → Told
kept told = (told.0, kept_policy told.0.event told.1)

-- what was written of an entry that is read so
abbrev pub written : Told → Entry × List ℕ
written told = (told.0, unwrap_or told.1 [])

-- what is told of each entry fits
abbrev pub all_fit : List (Entry × List ℕ) → Bool
all_fit entries = list_all (λ told. fit (words_of_entry told.0 told.1)) entries
