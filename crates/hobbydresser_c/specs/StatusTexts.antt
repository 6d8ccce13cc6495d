-- The statuses by number and name (own).
use Rattle.std.specs.Prelude.{ℕ, ◌≡◌, ◌==◌, List, [], ◌∷◌, codes, if◌then◌else◌}
use Rattle.hobbydresser_c.specs.declared.status_texts.StatusRow.{StatusRow}
use Rattle.hobbydresser_c.specs.Buffers.{Fills}
use Rattle.hobbydresser_c.specs.Statuses.{no_such}

-- a status's number and its name
pub record NamedStatus : Type 0 where
  pub number : ℕ
  pub name : List ℕ

-- a row of the code's table
abbrev pub status_view : StatusRow → NamedStatus
status_view row = record { number = row.number; name = row.name.now }

abbrev pub status : ℕ → List ℕ → NamedStatus
status number name = record { number = number; name = name }

-- the statuses that calls answer
abbrev pub status_rows : List NamedStatus
status_rows =
    status 0 (codes "HD_OK")
    ∷ status 1 (codes "HD_OUT_OF_MEMORY")
    ∷ status 2 (codes "HD_UNKNOWN_CLIENT")
    ∷ status 3 (codes "HD_UNKNOWN_QUEUE")
    ∷ status 4 (codes "HD_DENIED")
    ∷ status 5 (codes "HD_BUSY")
    ∷ status 6 (codes "HD_NOT_ALLOWED")
    ∷ status 7 (codes "HD_OUT_OF_STEP")
    ∷ status 8 (codes "HD_QUEUE_DOWN")
    ∷ status 9 (codes "HD_NOT_IN_FLIGHT")
    ∷ status 10 (codes "HD_NOT_FINISHED")
    ∷ status 11 (codes "HD_AUDIT_FULL")
    ∷ status 12 (codes "HD_BAD_SIZE")
    ∷ status 13 (codes "HD_TOO_MANY")
    ∷ status 14 (codes "HD_UNKNOWN_OBJECT")
    ∷ status 17 (codes "HD_OTHER_OBJECTS")
    ∷ status 101 (codes "HD_NOT_TOML")
    ∷ status 102 (codes "HD_MISSING_KEY")
    ∷ status 103 (codes "HD_BAD_VALUE")
    ∷ status 104 (codes "HD_UNKNOWN_NAME")
    ∷ status 105 (codes "HD_DOUBLE_NAME")
    ∷ status 106 (codes "HD_TOO_LONG")
    ∷ status 201 (codes "HD_READ_LEXEME")
    ∷ status 202 (codes "HD_READ_SYNTAX")
    ∷ status 203 (codes "HD_READ_PROFILE")
    ∷ status 204 (codes "HD_READ_TOO_LONG")
    ∷ status 301 (codes "HD_CHECK_LABEL")
    ∷ status 302 (codes "HD_CHECK_NAME")
    ∷ status 303 (codes "HD_CHECK_REGISTER")
    ∷ status 304 (codes "HD_CHECK_TYPE")
    ∷ status 305 (codes "HD_CHECK_ARGUMENT")
    ∷ status 306 (codes "HD_CHECK_LARGE")
    ∷ status 307 (codes "HD_CHECK_ADDRESS")
    ∷ status 401 (codes "HD_CLOSED")
    ∷ status 402 (codes "HD_OPEN_ALREADY")
    ∷ status 403 (codes "HD_NO_ENTRY")
    ∷ status 404 (codes "HD_BAD_PLACES")
    ∷ status 405 (codes "HD_NO_SUCH")
    ∷ status 406 (codes "HD_TOO_SHORT")
    ∷ []

-- the name in the first row that has a number, none where none has it
abbrev pub name_among : List NamedStatus → ℕ → List ℕ
name_among [] number = []
name_among (row ∷ rows) number = if row.number == number then row.name else name_among rows number

-- a buffer was to hold a status's name, or there is no such status
abbrev pub FillsKnown : List ℕ → ℕ → List ℕ → List ℕ → ℕ → ℕ → Type 0
FillsKnown [] status before after needed_before needed = (status ≡ no_such) × (after ≡ before) × (needed ≡ needed_before)
FillsKnown (c ∷ cs) status before after needed_before needed = Fills (c ∷ cs) status before after needed
