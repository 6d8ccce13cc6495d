-- The values of signals, and what an operation and a condition mean (PSA, Signals; PRM, Notification
-- (signal) Instructions). A value is a 64-bit signed number, and arithmetic on it wraps (own).
use Rattle.std.specs.Prelude.{ℕ, ℤ, ◌+ℤ◌, ◌-ℤ◌, ◌-◌, List, slice_set, Bool, not, if◌then◌else◌, int_lt, Option, Some, None}
use Rattle.std.specs.Ordering.{int_eq}
use Rattle.std.specs.Int.{w64, int_wrap, int_bit_and, int_bit_or, int_bit_xor}
use Rattle.aql_packet.specs.Ids.{numbered}
use Rattle.signals.specs.declared.operation.SignalOp.{SignalOp}
use Rattle.signals.specs.declared.operation.SignalOp.TheVariants.{Store, Add, Subtract, And, Or, Xor, Exchange, Cas}
use Rattle.signals.specs.declared.signals.UnknownSignal.{UnknownSignal}
use Rattle.signals.specs.declared.operation.Condition.{Condition}
use Rattle.signals.specs.declared.operation.Condition.TheVariants.{Eq, Ne, Lt, Gte}

-- The refusal where no signal has a number.
abbrev pub unknown_signal : UnknownSignal
unknown_signal = record {}

-- The value after an operation on the old one; `int_wrap w64` is what is left of a number in 64 bits.
abbrev pub applied : SignalOp → ℤ → ℤ
applied (Store value) old = value
applied (Add value) old = int_wrap w64 (old +ℤ value)
applied (Subtract value) old = int_wrap w64 (old -ℤ value)
applied (And value) old = int_bit_and w64 old value
applied (Or value) old = int_bit_or w64 old value
applied (Xor value) old = int_bit_xor w64 old value
applied (Exchange value) old = value
applied (Cas expected value) old = if int_eq old expected then value else old

-- Whether a value meets a condition against another.
abbrev pub meets : Condition → ℤ → ℤ → Bool
meets Eq value against = int_eq value against
meets Ne value against = not (int_eq value against)
meets Lt value against = int_lt value against
meets Gte value against = not (int_lt value against)

-- The value of the signal with a number: they are numbered from 1 (own).
unfoldable pub value_of : List ℤ → ℕ → Option ℤ
value_of values number = numbered values number

-- The values after an operation on the signal with a number; where there is none, as before.
unfoldable pub after : List ℤ → ℕ → SignalOp → List ℤ
after values number operation = changed (value_of values number)
  where
    changed : Option ℤ → List ℤ
    changed None = values
    changed (Some old) = slice_set values (number - 1) (applied operation old)
