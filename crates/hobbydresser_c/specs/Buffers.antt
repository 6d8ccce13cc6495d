-- What a caller's buffer holds after a call (own).
use Rattle.std.specs.Prelude.{ℕ, ◌≡◌, ◌⊎◌, Bool, true, false, nat_le, List, ◌++◌, drop, length, map}
use Rattle.hobbydresser_c.specs.Statuses.{ok, out_of_memory, too_short}

-- the bytes, and after them what stood there; a buffer that is too short is left alone, which the status says
abbrev pub Holds : Bool → List ℕ → ℕ → List ℕ → List ℕ → Type 0
Holds true bytes status before after = (status ≡ ok) × (after ≡ bytes ++ drop (length bytes) before)
Holds false bytes status before after = (status ≡ too_short) × (after ≡ before)

-- a buffer was to hold these bytes, and how many they are was told
abbrev pub Fills : List ℕ → ℕ → List ℕ → List ℕ → ℕ → Type 0
Fills bytes status before after needed = (needed ≡ length bytes) × Holds (nat_le (length bytes) (length before)) bytes status before after

-- memory was wanted and not to be had, and a buffer, and how many bytes it was to hold, are as before
abbrev pub Lacks : {A : Type 0} → ℕ → List A → List A → ℕ → ℕ → Type 0
Lacks status before after needed_before needed = (status ≡ out_of_memory) × (after ≡ before) × (needed ≡ needed_before)

-- a buffer was to hold these bytes, unless memory for them was wanted
abbrev pub FillsOrLacks : List ℕ → ℕ → List ℕ → List ℕ → ℕ → ℕ → Type 0
FillsOrLacks bytes status before after needed_before needed = Fills bytes status before after needed ⊎ Lacks status before after needed_before needed

-- the same of a caller's records: what is told of each item
abbrev pub HoldsRecords : {A T : Type 0} → Bool → (A → T) → List A → ℕ → List T → List T → Type 0
HoldsRecords true told items status before after = (status ≡ ok) × (after ≡ map told items ++ drop (length items) before)
HoldsRecords false told items status before after = (status ≡ too_short) × (after ≡ before)

abbrev pub FillsRecords : {A T : Type 0} → (A → T) → List A → ℕ → List T → List T → ℕ → Type 0
FillsRecords told items status before after needed =
    (needed ≡ length items) × HoldsRecords (nat_le (length items) (length before)) told items status before after
