-- The changes of a call in one buffer: of each a record, and the bytes that it wrote (own).
use Rattle.std.specs.Prelude.{ℕ, ◌≡◌, ◌-◌, ◌^◌, Bool, List, [], ◌∷◌, ◌++◌, length, min, nat_le, nat_lt, Option, Some, None, if◌then◌else◌}
use Rattle.std.specs.List.{flat_map}
use Rattle.std.specs.Int.{w64, cast_unsigned}
use Rattle.aql_packet.specs.Words.{bytes_of}
use Rattle.core_model.specs.declared.entry.Effect.{Effect}
use Rattle.hobbydresser_c.specs.declared.session.Session.{Session}
use Rattle.hobbydresser_c.specs.declared.told.EffectRecord.{EffectRecord}
use Rattle.hobbydresser_c.specs.Buffers.{Holds}
use Rattle.hobbydresser_c.specs.Calls.{session_effects}
use Rattle.hobbydresser_c.specs.LastCalls.{entry_count}
use Rattle.hobbydresser_c.specs.Told.{bytes_of as written_by, effect_told}

-- a record's words: each field is one, the kind with the four bytes of zeros behind it
abbrev pub words_of : EffectRecord → List ℕ
words_of told =
    told.kind ∷ told.address ∷ told.length ∷ told.signal ∷ cast_unsigned w64 told.before ∷ cast_unsigned w64 told.after ∷ told.queue
    ∷ told.packet ∷ []

-- the bytes that a change wrote, none where it is another
abbrev pub bytes_in : Option (List ℕ) → List ℕ
bytes_in None = []
bytes_in (Some bytes) = bytes

abbrev pub bytes_written : Effect → List ℕ
bytes_written effect = bytes_in (written_by effect)

-- a change: its record, and those bytes
abbrev pub laid_out : Effect → List ℕ
laid_out effect = bytes_of (words_of (effect_told effect)) ++ bytes_written effect

-- changes, one after another
abbrev pub all_laid_out : List Effect → List ℕ
all_laid_out effects = flat_map laid_out effects

-- a size as 64 bits count and tell it
abbrev pub size_told : ℕ → ℕ
size_told size = min size (2 ^ 64 - 1)

-- a buffer was to hold these bytes, and how many they are was told
abbrev pub FillsAll : List ℕ → ℕ → List ℕ → List ℕ → ℕ → Type 0
FillsAll bytes status before after needed =
    (needed ≡ size_told (length bytes)) × Holds (nat_le (length bytes) (length before)) bytes status before after

-- ---- what the last call left

-- whether it left an entry: there are more than when it began
abbrev pub leaves_entry : Session → Bool
leaves_entry session = nat_lt session.last.entries (entry_count session.core.history)

-- the number of that entry, 0 where there is none
abbrev pub number_left : Session → ℕ
number_left session = if leaves_entry session then entry_count session.core.history else 0

-- what that entry's call changed
abbrev pub effects_left : Session → List Effect
effects_left session = if leaves_entry session then session_effects session else []
