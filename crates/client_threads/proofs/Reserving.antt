-- Room that was got before it is needed.
use Rattle.std.proofs.Common.{◌≡◌, ℕ, ◌+◌, ◌<◌, ◌≤◌, Bool, true, false, arith}
use Rattle.std.specs.Prelude.{Result, Ok, Err, OnOk, is_err}

-- where a reservation isn't refused, as a test of it tells, there is room for one item
pub room_got : {T E : Type 0} (r : Result T E) (told : Bool) (len capacity : ℕ) → OnOk r (len + 1 ≤ capacity) → told ≡ is_err r → told ≡ false → len < capacity
room_got (Ok x) told len capacity room is free = omega (arith, room)
room_got (Err e) told len capacity room is free = absurd cc
