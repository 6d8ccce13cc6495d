-- Where and why a text is not read (own).
use Rattle.std.specs.Prelude.{◌≡◌, ℕ, ◌+◌, List, [], ◌∷◌, ◌++◌, codes, ◌==◌, if◌then◌else◌, Option, Some, None, Result, Ok, Err, take}
use Rattle.std.specs.Fmt.{decimal}
use Rattle.hsail_reader.specs.Nouns.{ReadCause, Flaw, ReadError, ReadFault, PlacedFlaw, Stop}
use Rattle.hsail_reader.specs.declared.fault.ReadCause.TheVariants.{Lexeme, Syntax, NotInProfile, TooLong}
use Rattle.hsail_reader.specs.declared.fault.Flaw.TheVariants as flaw
use Rattle.hsail_reader.specs.declared.fault.ReadError.TheVariants as error
use Rattle.hsail_reader.specs.declared.fault.Stop.TheVariants as stop

-- the numbers of the causes (own)
abbrev pub cause_number : ReadCause → ℕ
cause_number Lexeme = 1
cause_number Syntax = 2
cause_number NotInProfile = 3
cause_number TooLong = 4

abbrev pub cause_name : ReadCause → List ℕ
cause_name Lexeme = codes "Lexeme"
cause_name Syntax = codes "Syntax"
cause_name NotInProfile = codes "NotInProfile"
cause_name TooLong = codes "TooLong"

-- how a fault is told, by its line, its column and its cause's name
abbrev pub text_of_fault : ReadFault → List ℕ
text_of_fault f =
    codes "line " ++ decimal f.line ++ codes ", column " ++ decimal f.column ++ codes ": " ++ cause_name f.cause

abbrev pub text_of_error : ReadError → List ℕ
text_of_error error.OutOfMemory = codes "out of memory"
text_of_error (error.Fault f) = text_of_fault f

-- the fault behind these bytes, of which the first stands at this line and column
abbrev pub fault_at : ℕ → ℕ → List ℕ → ReadCause → ReadFault
fault_at line column [] cause = record { line = line; column = column; cause = cause }
fault_at line column (b ∷ before) cause =
    if b == 10 then fault_at (line + 1) 1 before cause else fault_at line (column + 1) before cause

-- a flaw with the number of bytes before it
abbrev pub placed_flaw : Option ℕ → Flaw → PlacedFlaw
placed_flaw place flaw = record { place = place; flaw = flaw }

abbrev pub cause_of : Flaw → ReadCause
cause_of flaw.Lexeme = Lexeme
cause_of flaw.Syntax = Syntax
cause_of flaw.NotInProfile = NotInProfile

-- the bytes before a place, or all
abbrev pub before_place : Option ℕ → List ℕ → List ℕ
before_place None text = text
before_place (Some place) text = take place text

-- the fault of a text, with its line and column
abbrev pub fault_of : List ℕ → PlacedFlaw → ReadFault
fault_of text r = fault_at 1 1 (before_place r.place text) (cause_of r.flaw)

-- what a stop is to a reader of the whole text
abbrev pub error_of : List ℕ → Stop → ReadError
error_of text stop.OutOfMemory = error.OutOfMemory
error_of text (stop.Refused r) = error.Fault (fault_of text r)

-- the fault of a text over 65,536 bytes
abbrev pub too_long : ReadFault
too_long = record { line = 1; column = 1; cause = TooLong }

-- what a function returned is what reading gives, seen by view, unless memory ran out
abbrev pub Fails : {Y : Type 0} → Stop → Result Y PlacedFlaw → Type 0
Fails stop.OutOfMemory read = Unit {0}
Fails (stop.Refused r) read = read ≡ Err r

abbrev pub Gives : {X Y : Type 0} → (X → Y) → Result X Stop → Result Y PlacedFlaw → Type 0
Gives view (Ok x) read = read ≡ Ok (view x)
Gives view (Err e) read = Fails e read

-- read, with these items before
abbrev pub with_front : {X : Type 0} → List X → Result (List X) PlacedFlaw → Result (List X) PlacedFlaw
with_front front (Ok items) = Ok (front ++ items)
with_front front (Err r) = Err r
