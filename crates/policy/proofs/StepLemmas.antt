-- A reading without fault: what its steps gave.
use Rattle.std.proofs.Common.{◌≡◌, ℕ, Result, Ok, Err, refl}
use Rattle.policy.specs.declared.fault.RowFault.{RowFault}
use Rattle.policy.specs.declared.fault.Section.{Section}
use Rattle.policy.specs.Reading.{◌>>=◌}
use Rattle.policy.specs.Format.{in_row}

pub then_ok : {A B E : Type 0} (r : Result A E) (f : A → Result B E) (b : B) → (r >>= f) ≡ Ok b → (a : A) × (r ≡ Ok a) × (f a ≡ Ok b)
then_ok (Ok x) f b h = (x, refl, h)
then_ok (Err e) f b h = cc

pub in_row_ok : {A : Type 0} (s : Section) (n : ℕ) (r : Result A RowFault) (x : A) → in_row s n r ≡ Ok x → r ≡ Ok x
in_row_ok s n (Ok y) x h = cc
in_row_ok s n (Err e) x h = cc
