-- Records of a session's socket (own): a head of 64 bytes, and at most 65,536 behind it. Numbers are little-endian.
use Rattle.std.specs.Prelude.{ℕ, ◌+◌, ◌==◌, nat_le, Bool, ◌&&◌, List, length, drop, Option, Some, None, if◌then◌else◌}
use Rattle.byteorder.specs.Endian.{little_number}
use Rattle.session.specs.declared.head.Head.{Head}

-- the number in so many bytes from a place on
abbrev pub number_at : List ℕ → ℕ → ℕ → ℕ
number_at bytes place size = little_number size (drop place bytes)

-- a record has a head and at most 65,536 bytes behind it, as many as the head says, and no status, which answers alone have
abbrev pub is_record : List ℕ → Bool
is_record bytes =
    nat_le 64 (length bytes) && nat_le (length bytes) 65600 && 64 + number_at bytes 12 4 == length bytes && number_at bytes 8 4 == 0

-- a head: what is asked, a tag for the answer, (a status,) how many bytes follow, and six numbers
abbrev pub head_at : List ℕ → Head
head_at bytes = record {
  asks = number_at bytes 0 4;
  tag = number_at bytes 4 4;
  following = number_at bytes 12 4;
  first = number_at bytes 16 8;
  second = number_at bytes 24 8;
  third = number_at bytes 32 8;
  fourth = number_at bytes 40 8;
  fifth = number_at bytes 48 8;
  sixth = number_at bytes 56 8;
}

abbrev pub head_of : List ℕ → Option Head
head_of bytes = if is_record bytes then Some (head_at bytes) else None

-- of its six numbers a head uses the first few at most: those behind are zero
abbrev pub uses_four : Head → Bool
uses_four head = head.fifth == 0 && head.sixth == 0

abbrev pub uses_three : Head → Bool
uses_three head = head.fourth == 0 && uses_four head

abbrev pub uses_two : Head → Bool
uses_two head = head.third == 0 && uses_three head

abbrev pub uses_one : Head → Bool
uses_one head = head.second == 0 && uses_two head

abbrev pub uses_none : Head → Bool
uses_none head = head.first == 0 && uses_one head
