-- What a reader and a writer answer, and what that left of their bytes (own).
use Rattle.std.specs.Prelude.{ℕ, ◌≡◌, ◌+◌, ◌≤◌, true, false, Bool, List, [], ◌++◌, length, take, Option, Some, None, Result, Ok, Err, ⊤}
use Rattle.std.specs.Io.KnownBytes.{Appends, Consumes, Keeps, IsAtEnd}
use Rattle.script.specs.declared.streams.ReadAnswer.{ReadAnswer}
use Rattle.script.specs.declared.streams.ReadAnswer.TheVariants as read
use Rattle.script.specs.declared.streams.WriteAnswer.{WriteAnswer}
use Rattle.script.specs.declared.streams.WriteAnswer.TheVariants as write
use Rattle.script.specs.declared.fault.ScriptFault.{ScriptFault}

-- whether a reader has failed behind an answer: just where it says so, or had before
abbrev pub after_read : ReadAnswer → Bool → Bool
after_read (read.Gave count) failed = failed
after_read read.Interrupted failed = failed
after_read read.Failed failed = true

-- and a writer
abbrev pub after_write : WriteAnswer → Bool → Bool
after_write (write.Took count) failed = failed
after_write write.Interrupted failed = failed
after_write write.Failed failed = true

abbrev pub after_taking : Option ℕ → Bool → Bool
after_taking (Some count) failed = failed
after_taking None failed = true

abbrev pub after_flush : Bool → Bool → Bool
after_flush true failed = failed
after_flush false failed = true

-- what a read left: it gave bytes, of which there are none only at the end; or it gave nothing
abbrev pub HasRead : Option (List ℕ) → Option (List ℕ) → ReadAnswer → List ℕ → Type 0
HasRead old new (read.Gave count) block = (count ≤ length block) × Consumes old new (take count block) × (count ≡ 0 → IsAtEnd new)
HasRead old new read.Interrupted block = Keeps old new
HasRead old new read.Failed block = Keeps old new

-- what a write left: the writer took so many bytes, or nothing
abbrev pub HasTaken : Option (List ℕ) → Option (List ℕ) → WriteAnswer → List ℕ → Type 0
HasTaken old new (write.Took count) bytes = (count ≤ length bytes) × Appends old new (take count bytes)
HasTaken old new write.Interrupted bytes = Appends old new []
HasTaken old new write.Failed bytes = Appends old new []

-- a read gave bytes, of which there are none only at the end; or it gave nothing
abbrev pub ReadsBlock : Option (List ℕ) → Option (List ℕ) → Result (Option ℕ) ScriptFault → List ℕ → Type 0
ReadsBlock old new (Ok (Some count)) block = (count ≤ length block) × Consumes old new (take count block) × (count ≡ 0 → IsAtEnd new)
ReadsBlock old new (Ok None) block = Keeps old new
ReadsBlock old new (Err fault) block = Keeps old new

-- a write took so many bytes, or none
abbrev pub Takes : Option (List ℕ) → Option (List ℕ) → Option ℕ → List ℕ → Type 0
Takes old new (Some count) bytes = (count ≤ length bytes) × Appends old new (take count bytes)
Takes old new None bytes = Appends old new []

-- known bytes grow by a beginning of others
pub record AppendsBeginning (old new : Option (List ℕ)) (bytes : List ℕ) : Type 0 where
  pub gained : List ℕ
  pub missed : List ℕ
  pub parts : bytes ≡ gained ++ missed
  pub grows : Appends old new gained
