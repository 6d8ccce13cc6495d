-- Data types, registers and alignments (PRM, Data Types; Registers).
use Rattle.std.specs.Prelude.{ℕ}
use Rattle.hsail_reader.specs.Nouns.{Alignment, DataType, RegisterClass, B1, B16, B32, B64, B8, Control, Double, Eight, Four, One, S16, S32, S64, S8, Single, Sixteen, Two, U16, U32, U64, U8}

-- the bits of a value of a type (PRM, Data Types)
abbrev pub type_bits : DataType → ℕ
type_bits B1 = 1
type_bits B8 = 8
type_bits B16 = 16
type_bits B32 = 32
type_bits B64 = 64
type_bits U8 = 8
type_bits U16 = 16
type_bits U32 = 32
type_bits U64 = 64
type_bits S8 = 8
type_bits S16 = 16
type_bits S32 = 32
type_bits S64 = 64

-- the registers for a type: $c for 1 bit, $s for 8, 16 and 32, $d for 64 (PRM, Registers)
abbrev pub type_class : DataType → RegisterClass
type_class B1 = Control
type_class B64 = Double
type_class U64 = Double
type_class S64 = Double
type_class _ = Single

-- the bytes of an align(n) (PRM, Declaring and Defining Identifiers)
abbrev pub alignment_bytes : Alignment → ℕ
alignment_bytes One = 1
alignment_bytes Two = 2
alignment_bytes Four = 4
alignment_bytes Eight = 8
alignment_bytes Sixteen = 16
