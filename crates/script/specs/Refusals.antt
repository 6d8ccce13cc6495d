-- The refusals by number and name (own).
use Rattle.std.specs.Prelude.{ℕ, ◌==◌, List, [], ◌∷◌, codes, if◌then◌else◌}
use Rattle.core_model.specs.Refusals.{number_of}
use Rattle.world.specs.declared.reply.Refusal.{Refusal}
use Rattle.world.specs.declared.reply.Refusal.TheVariants as why
use Rattle.script.specs.declared.refusals.RefusalRow.{RefusalRow}

-- a refusal's number and its name
pub record NamedRefusal : Type 0 where
  pub number : ℕ
  pub name : List ℕ

-- a row of the code's table, without its meaning
abbrev pub refusal_view : RefusalRow → NamedRefusal
refusal_view row = record { number = row.number; name = row.name.now }

abbrev pub refusal : ℕ → List ℕ → NamedRefusal
refusal number name = record { number = number; name = name }

-- the refusals
abbrev pub refusal_rows : List NamedRefusal
refusal_rows =
    refusal 0 (codes "OutOfMemory")
    ∷ refusal 1 (codes "UnknownClient")
    ∷ refusal 2 (codes "UnknownQueue")
    ∷ refusal 3 (codes "Denied")
    ∷ refusal 4 (codes "Busy")
    ∷ refusal 5 (codes "NotAllowed")
    ∷ refusal 6 (codes "OutOfStep")
    ∷ refusal 7 (codes "QueueDown")
    ∷ refusal 8 (codes "NotInFlight")
    ∷ refusal 9 (codes "NotFinished")
    ∷ refusal 10 (codes "AuditFull")
    ∷ refusal 11 (codes "BadSize")
    ∷ refusal 12 (codes "TooMany")
    ∷ refusal 13 (codes "UnknownObject")
    ∷ refusal 14 (codes "NotAStep")
    ∷ refusal 15 (codes "Spent")
    ∷ refusal 16 (codes "OtherObjects")
    ∷ []

-- the name in the first row that has a number
abbrev pub name_among : List NamedRefusal → ℕ → List ℕ
name_among [] number = []
name_among (row ∷ rows) number = if row.number == number then row.name else name_among rows number

-- a refusal's number: that of the core's, or one of the rings around it
abbrev pub number_of_why : Refusal → ℕ
number_of_why (why.Core refusal) = number_of refusal
number_of_why why.NotAStep = 14
number_of_why why.Spent = 15

-- a refusal's name
unfoldable pub name_of_why : Refusal → List ℕ
name_of_why why = name_among refusal_rows (number_of_why why)
