-- An emptied audit, as a rotation whose part is dropped.
use Rattle.std.proofs.Common.{◌≡◌, Ok, Err, Result, true, false, refl}
use Rattle.std.specs.Prelude.{is_ok}
use Rattle.core_model.specs.History.{History}
use Rattle.core_model.specs.Rotation.{Truncates, lies_too_far}
use Rattle.core_model.specs.declared.refusal.Refusal.{Refusal}
use Rattle.core_model.specs.declared.refusal.Refusal.TheVariants as refusal
use Rattle.world.specs.States.{Joined}
use Rattle.script.specs.Runs.{Rotates}

pub emptied : (old new : Joined) (result : Result (Unit {0}) Refusal) → Truncates old.core result new.core
    → (new.rings ≡ old.rings) × (new.closed ≡ old.closed) → is_ok result ≡ true → Rotates old new
emptied old new (Ok done) is rest ok = (is.0, (Ok is.0, refl, is.1, rest.0, rest.1))
emptied old new (Err why) is rest ok = absurd (cc)

pub stays : (old new : Joined) (result : Result (Unit {0}) Refusal) → Truncates old.core result new.core
    → (new.rings ≡ old.rings) × (new.closed ≡ old.closed) → is_ok result ≡ false → new ≡ old
stays old new (Ok done) is rest none = absurd (cc)
stays old new (Err refusal.AuditFull) is rest none = λ i. record { core = is.1 i; rings = rest.0 i; closed = rest.1 i }
stays old new (Err _) is rest none = absurd is

pub too_far : (old new : History) (result : Result (Unit {0}) Refusal) → Truncates old result new → is_ok result ≡ false → lies_too_far old ≡ true
too_far old new (Ok done) is none = absurd (cc)
too_far old new (Err refusal.AuditFull) is none = is.0
too_far old new (Err _) is none = absurd is
