-- A fault that was found in the text isn't that the text is too long.
use Rattle.std.proofs.Common.{◌≡◌, ℕ, ◌+◌, List, [], ◌∷◌, ◌==◌, Result, Err, ⊎_elim, refl, ap, sym, ◌∙◌}
use Rattle.std.proofs.lemmas.Bool.{cases_Bool}
use Rattle.hsail_reader.specs.Faults.{error_of, fault_at, fault_of, before_place, cause_of, too_long}
use Rattle.hsail_reader.specs.Nouns.{ReadCause, Flaw, Module, ReadError, ReadFault, PlacedFlaw, Stop}
use Rattle.hsail_reader.specs.declared.fault.ReadCause.TheVariants.{TooLong}
use Rattle.hsail_reader.specs.declared.fault.Flaw.TheVariants as flaw
use Rattle.hsail_reader.specs.declared.fault.ReadError.TheVariants as error
use Rattle.hsail_reader.specs.declared.fault.Stop.TheVariants as stop

fault_at_cause : (line column : ℕ) (before : List ℕ) (cause : ReadCause) → (fault_at line column before cause).cause ≡ cause
fault_at_cause line column [] cause = refl
fault_at_cause line column (b ∷ before) cause =
    ⊎_elim (λ y. rw y (fault_at_cause (line + 1) 1 before cause)) (λ n. rw n (fault_at_cause line (column + 1) before cause))
    (cases_Bool (b == 10))

not_too_long : (f : Flaw) → cause_of f ≡ TooLong → ⊥
not_too_long flaw.Lexeme e = cc
not_too_long flaw.Syntax e = cc
not_too_long flaw.NotInProfile e = cc

never_too_long : (text : List ℕ) (r : PlacedFlaw) (f : ReadFault) → f ≡ fault_of text r → f ≡ too_long → ⊥
never_too_long text r f is e =
    not_too_long r.flaw
    (sym (fault_at_cause 1 1 (before_place r.place text) (cause_of r.flaw))
    ∙ ap (λ (g : ReadFault). g.cause) (sym is ∙ e))

-- what a stop comes to isn't either
pub told_in_time : (text : List ℕ) (s : Stop) (x : ReadError) (r : Result Module ReadError) → x ≡ error_of text s → r ≡ Err x
    → r ≡ Err (error.Fault too_long) → ⊥
told_in_time text stop.OutOfMemory x r is told e = cc
told_in_time text (stop.Refused q) x r is told e =
    let same : fault_of text q ≡ too_long = cc in never_too_long text q (fault_of text q) refl same
