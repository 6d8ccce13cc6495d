-- Conditions on signals and operations on them, as words (own).
use Rattle.std.specs.Prelude.{ℤ, codes, Option, Some, None, bytes_eq, if◌then◌else◌}
use Rattle.signals.specs.declared.operation.Condition.{Condition}
use Rattle.signals.specs.declared.operation.SignalOp.{SignalOp}
use Rattle.signals.specs.declared.operation.SignalOp.TheVariants as op
use Rattle.signals.specs.declared.operation.Condition.TheVariants as condition
use Rattle.words.specs.Lines.{Word}

-- a condition on a signal's value
abbrev pub condition_word : Word → Option Condition
condition_word word =
    if bytes_eq word (codes "EQ") then Some condition.Eq
    else if bytes_eq word (codes "NE") then Some condition.Ne
    else if bytes_eq word (codes "LT") then Some condition.Lt
    else if bytes_eq word (codes "GTE") then Some condition.Gte
    else None

-- an operation with one value
abbrev pub operation_of : Word → ℤ → Option SignalOp
operation_of word value =
    if bytes_eq word (codes "store") then Some (op.Store value)
    else if bytes_eq word (codes "add") then Some (op.Add value)
    else if bytes_eq word (codes "subtract") then Some (op.Subtract value)
    else if bytes_eq word (codes "and") then Some (op.And value)
    else if bytes_eq word (codes "or") then Some (op.Or value)
    else if bytes_eq word (codes "xor") then Some (op.Xor value)
    else if bytes_eq word (codes "exchange") then Some (op.Exchange value)
    else None
