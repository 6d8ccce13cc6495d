-- The value of a field of a packet (PSA, Architected Queuing Language: fields are little-endian, and bits are counted from
-- the lowest).
use Rattle.std.specs.Prelude.{ℕ, ◌+◌, ◌&&◌, Bool, List, Option, Some, None, nat_le, nat_lt, if◌then◌else◌}
use Rattle.aql_packet.specs.Numbers.{bits, number_at}
use Rattle.packet_listing.specs.declared.field.Field.{Field}

-- Whether a field lies in 64 bytes, and is a number of 64 bits at the most.
abbrev pub is_within : Field → Bool
is_within field =
    nat_le 1 field.size && nat_le field.size 8 && nat_le (field.place + field.size) 64 && nat_le field.low field.high && nat_lt field.high 64

-- Its value: these bits of the number in its bytes.
abbrev pub value_in : List ℕ → Field → Option ℕ
value_in bytes field =
    if is_within field then Some (bits (number_at bytes field.place field.size) field.high field.low) else None
