-- Memory that is read and written, as the history has it.
use Rattle.core_model.specs.History.{beginning}
use Rattle.std.proofs.Common.{◌≡◌, ℕ, ◌+◌, ◌-◌, ◌<◌, List, length, refl, sym, ◌∙◌, true, false, Some, arith, ◌≢◌, ◌==◌, slice_get}
use Rattle.std.proofs.Common.{slice_index, if◌then◌else◌}
use Rattle.access_core.proofs.Terms.{History, Inside, IsCached, IsChanged, IsMemory, IsWithin, IsWithin-from_test, IsWritten, byte_at, bytes_from, covers, get_or-map-range_with_len}
use Rattle.access_core.proofs.Terms.{get_or_from_slice_get, history_of, is_within, length-bytes_from, length-map-range_with_len, length-region_bytes, lengths_of, lies_in_region}
use Rattle.access_core.proofs.Terms.{memory_at, memory_from, region_length-is, region_lengths, same_lists, slice_get-bytes_from, slice_get-get_or, start_of, write_of}

-- each address of a range that lies whole in a region lies in it
lies-within : (regions : List (List ℕ)) (address size k : ℕ) → IsMemory regions → IsWithin regions address size → k < size → lies_in_region (lengths_of regions) (address + k) ≡ true
lies-within regions address size k memory within below = grind (arith, length-region_bytes, region_length-is)

-- what is read is what the history has there
read-kept : (a : Inside) (kept : IsCached a) → IsMemory a.memory → (address size : ℕ) → is_within (region_lengths a.start.policy) address size ≡ true
    → bytes_from a.memory address size ≡ memory_from (start_of a) a.audit.items address size
read-kept a kept memory address size test =
    let within : IsWithin a.memory address size = IsWithin-from_test a.memory address size (rw kept.lengths test) in
    let long : length (bytes_from a.memory address size) ≡ size = length-bytes_from a.memory address size within in
    same_lists (bytes_from a.memory address size) (memory_from (start_of a) a.audit.items address size)
    (long ∙ sym (length-map-range_with_len (memory_at (start_of a) a.audit.items) address size))
    (λ k d h.
    let below : k < size = omega (arith, h, long) in
    let lies : lies_in_region (region_lengths a.start.policy) (address + k) ≡ true = rw kept.lengths at (lies-within a.memory address size k memory within below) in
    get_or_from_slice_get (bytes_from a.memory address size) k (memory_at (start_of a) a.audit.items (address + k)) d
    (slice_get-bytes_from a.memory address size k memory within below ∙ kept.memory (address + k) lies)
    ∙ sym (get_or-map-range_with_len (memory_at (start_of a) a.audit.items) address size k (address + k) d below refl))

pub read-inside : (a : Inside) (kept : IsCached a) (old : History) (seen_as : history_of a ≡ old) → IsMemory a.memory → (address size : ℕ)
    → is_within (region_lengths (beginning old).policy) address size ≡ true → bytes_from a.memory address size ≡ memory_from (beginning old) old.entries address size
read-inside a kept old seen_as memory address size = grind (arith, read-kept)

-- what is written is what the change says
pub written-changed : (old : List (List ℕ)) (address : ℕ) (bytes : List ℕ) (new : List (List ℕ)) → (length bytes ≢ 0) → IsWritten old address bytes new
    → IsChanged old (write_of address bytes) new
written-changed old address bytes new some written = λ x byte before.
    let nonzero : (length bytes == 0) ≡ false = grind arith in
    rw nonzero (written x ∙ inside x byte before)
  where
    inside : (x byte : ℕ) → byte_at old x ≡ Some byte → (if covers address (length bytes) x then slice_get bytes (x - address) else byte_at old x)
        ≡ Some (if covers address (length bytes) x then slice_index bytes (x - address) else byte)
    inside x byte before = grind (arith, slice_get-get_or bytes (x - address) 0)
