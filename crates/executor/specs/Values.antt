-- What operations compute of the registers, a line each (PRM, Arithmetic Operations).
use Rattle.std.specs.Prelude.{ℕ, Bool, not, true, false, ◌&&◌, ◌||◌, if◌then◌else◌, pos, bit_and, bit_or, bit_xor}
use Rattle.std.specs.Int.{w32, w64, bit_not}
use Rattle.executor.specs.Numbers.{unsigned, signed, number, computed, compared, wrapped, sum, difference, product, quotient, remainder, least, greatest, shifted_left, shifted_right}
use Rattle.executor.specs.Registers.{read1, read32, read64}
use Rattle.executor.specs.declared.registers.Registers.{Registers}
use Rattle.kernel_check.specs.declared.step.ControlOperation.{ControlOperation}
use Rattle.kernel_check.specs.declared.step.ControlOperation.TheVariants as control
use Rattle.kernel_check.specs.declared.step.DoubleOperation.{DoubleOperation}
use Rattle.kernel_check.specs.declared.step.DoubleOperation.TheVariants as double
use Rattle.kernel_check.specs.declared.step.SingleOperation.{SingleOperation}
use Rattle.kernel_check.specs.declared.step.SingleOperation.TheVariants as single

-- just one of two bits
abbrev pub differ : Bool → Bool → Bool
differ true b = not b
differ false b = b

-- a bit as a number
abbrev pub bit : Bool → ℕ
bit b = if b then 1 else 0

-- one bit, for a $c register (PRM, Individual Bit Operations; Compare Operation)
abbrev pub value1 : Registers → ControlOperation → Bool
value1 r (control.Move a) = read1 r a
value1 r (control.Not a) = not (read1 r a)
value1 r (control.And p) = read1 r p.left && read1 r p.right
value1 r (control.Or p) = read1 r p.left || read1 r p.right
value1 r (control.Xor p) = differ (read1 r p.left) (read1 r p.right)
value1 r (control.Choose c) = if read1 r c.condition then read1 r c.one else read1 r c.zero
value1 r (control.Compare c) = compared c.comparison (pos (bit (read1 r c.left))) (pos (bit (read1 r c.right)))
value1 r (control.CompareUnsigned32 c) = compared c.comparison (number unsigned w32 (read32 r c.left)) (number unsigned w32 (read32 r c.right))
value1 r (control.CompareSigned32 c) = compared c.comparison (number signed w32 (read32 r c.left)) (number signed w32 (read32 r c.right))
value1 r (control.CompareUnsigned64 c) = compared c.comparison (number unsigned w64 (read64 r c.left)) (number unsigned w64 (read64 r c.right))
value1 r (control.CompareSigned64 c) = compared c.comparison (number signed w64 (read64 r c.left)) (number signed w64 (read64 r c.right))

-- 32 bits, for an $s register (PRM, Integer Arithmetic Operations; Individual Bit Operations; Integer Shift Operations)
abbrev pub value32 : Registers → SingleOperation → ℕ
value32 r (single.Move a) = read32 r a
value32 r (single.Not a) = bit_not w32 (read32 r a)
value32 r (single.Add p) = computed sum unsigned w32 (read32 r p.left) (read32 r p.right)
value32 r (single.Subtract p) = computed difference unsigned w32 (read32 r p.left) (read32 r p.right)
value32 r (single.Multiply p) = computed product unsigned w32 (read32 r p.left) (read32 r p.right)
value32 r (single.MultiplyAdd t) =
    wrapped w32 (sum (product (pos (read32 r t.first)) (pos (read32 r t.second))) (pos (read32 r t.third)))
value32 r (single.DivideUnsigned p) = computed quotient unsigned w32 (read32 r p.left) (read32 r p.right)
value32 r (single.DivideSigned p) = computed quotient signed w32 (read32 r p.left) (read32 r p.right)
value32 r (single.RemainderUnsigned p) = computed remainder unsigned w32 (read32 r p.left) (read32 r p.right)
value32 r (single.RemainderSigned p) = computed remainder signed w32 (read32 r p.left) (read32 r p.right)
value32 r (single.LeastUnsigned p) = computed least unsigned w32 (read32 r p.left) (read32 r p.right)
value32 r (single.LeastSigned p) = computed least signed w32 (read32 r p.left) (read32 r p.right)
value32 r (single.GreatestUnsigned p) = computed greatest unsigned w32 (read32 r p.left) (read32 r p.right)
value32 r (single.GreatestSigned p) = computed greatest signed w32 (read32 r p.left) (read32 r p.right)
value32 r (single.And p) = bit_and (read32 r p.left) (read32 r p.right)
value32 r (single.Or p) = bit_or (read32 r p.left) (read32 r p.right)
value32 r (single.Xor p) = bit_xor (read32 r p.left) (read32 r p.right)
value32 r (single.ShiftLeft p) = shifted_left w32 (read32 r p.left) (read32 r p.right)
value32 r (single.ShiftRightUnsigned p) = shifted_right unsigned w32 (read32 r p.left) (read32 r p.right)
value32 r (single.ShiftRightSigned p) = shifted_right signed w32 (read32 r p.left) (read32 r p.right)
value32 r (single.Choose c) = if read1 r c.condition then read32 r c.one else read32 r c.zero

-- 64 bits, for a $d register (PRM, Integer Arithmetic Operations; Individual Bit Operations; Integer Shift Operations)
abbrev pub value64 : Registers → DoubleOperation → ℕ
value64 r (double.Move a) = read64 r a
value64 r (double.Not a) = bit_not w64 (read64 r a)
value64 r (double.Add p) = computed sum unsigned w64 (read64 r p.left) (read64 r p.right)
value64 r (double.Subtract p) = computed difference unsigned w64 (read64 r p.left) (read64 r p.right)
value64 r (double.Multiply p) = computed product unsigned w64 (read64 r p.left) (read64 r p.right)
value64 r (double.MultiplyAdd t) =
    wrapped w64 (sum (product (pos (read64 r t.first)) (pos (read64 r t.second))) (pos (read64 r t.third)))
value64 r (double.DivideUnsigned p) = computed quotient unsigned w64 (read64 r p.left) (read64 r p.right)
value64 r (double.DivideSigned p) = computed quotient signed w64 (read64 r p.left) (read64 r p.right)
value64 r (double.RemainderUnsigned p) = computed remainder unsigned w64 (read64 r p.left) (read64 r p.right)
value64 r (double.RemainderSigned p) = computed remainder signed w64 (read64 r p.left) (read64 r p.right)
value64 r (double.LeastUnsigned p) = computed least unsigned w64 (read64 r p.left) (read64 r p.right)
value64 r (double.LeastSigned p) = computed least signed w64 (read64 r p.left) (read64 r p.right)
value64 r (double.GreatestUnsigned p) = computed greatest unsigned w64 (read64 r p.left) (read64 r p.right)
value64 r (double.GreatestSigned p) = computed greatest signed w64 (read64 r p.left) (read64 r p.right)
value64 r (double.And p) = bit_and (read64 r p.left) (read64 r p.right)
value64 r (double.Or p) = bit_or (read64 r p.left) (read64 r p.right)
value64 r (double.Xor p) = bit_xor (read64 r p.left) (read64 r p.right)
value64 r (double.ShiftLeft p) = shifted_left w64 (read64 r p.value) (read32 r p.count)
value64 r (double.ShiftRightUnsigned p) = shifted_right unsigned w64 (read64 r p.value) (read32 r p.count)
value64 r (double.ShiftRightSigned p) = shifted_right signed w64 (read64 r p.value) (read32 r p.count)
value64 r (double.Choose c) = if read1 r c.condition then read64 r c.one else read64 r c.zero
