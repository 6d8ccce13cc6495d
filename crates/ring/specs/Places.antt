-- Where the words of a ring lie among those of its table, which has gaps beside them (own).
use Rattle.std.specs.Prelude.{ℕ, zero, suc, ◌+◌, ◌*◌, List, ◌++◌, take, drop}
use Rattle.ring.specs.declared.place.TheConstants.{TABLE_WRITE_PLACE, TABLE_READ_PLACE, TABLE_FIRST_SLOT}

-- how many words the table of a ring has: what lies before the first slot, and eight words a slot
abbrev pub table_count : ℕ → ℕ
table_count size = TABLE_FIRST_SLOT + 8 * size

-- the place among the table's words of a place among the machine's: the write index, the read index, and
-- the slots in turn
abbrev pub table_place : ℕ → ℕ
table_place zero = TABLE_WRITE_PLACE
table_place (suc zero) = TABLE_READ_PLACE
table_place (suc (suc place)) = TABLE_FIRST_SLOT + place

-- the machine's words among the table's: the write index, the read index and the slots, without the gaps
abbrev pub words_seen : List ℕ → List ℕ
words_seen words =
    take 1 (drop TABLE_WRITE_PLACE words) ++ take 1 (drop TABLE_READ_PLACE words) ++ drop TABLE_FIRST_SLOT words
