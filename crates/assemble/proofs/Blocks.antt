-- Zeros, low bytes and blocks, one step more.
use Rattle.std.proofs.Common.{◌≡◌, ℕ, zero, suc, ◌+◌, ◌-◌, ◌/◌, ◌%◌, ◌<◌, List, [], ◌∷◌, ◌++◌, length, refl, add-one, arith}
use Rattle.assemble.specs.Blocks.{block_from, low_bytes, with_argument, zeros}
use Rattle.assemble.specs.declared.layout.ArgumentPlace.{ArgumentPlace}

pub zeros_none : zeros 0 ≡ []
unfolding zeros
zeros_none = refl

pub zeros_more : (count : ℕ) → zeros (count + 1) ≡ zeros count ++ 0 ∷ []
unfolding zeros
zeros_more count = rw add-one refl

pub low_bytes_none : (count n : ℕ) → count ≡ 0 → low_bytes count n ≡ []
unfolding low_bytes
low_bytes_none zero n h = refl
low_bytes_none (suc count) n h = absurd (omega arith)

pub low_bytes_more : (count n : ℕ) → 0 < count → low_bytes count n ≡ n % 256 ∷ low_bytes (count - 1) (n / 256)
unfolding low_bytes
low_bytes_more zero n h = absurd (omega arith)
low_bytes_more (suc count) n h = let e : suc count - 1 ≡ count = omega arith in rw e refl

pub block_end : (bytes : List ℕ) (values : List ℕ) → block_from bytes [] values ≡ bytes
unfolding block_from
block_end bytes values = refl

pub block_no_values : (bytes : List ℕ) (places : List ArgumentPlace) → block_from bytes places [] ≡ bytes
unfolding block_from
block_no_values bytes [] = refl
block_no_values bytes (place ∷ places) = refl

pub block_more : (bytes : List ℕ) (place : ArgumentPlace) (places : List ArgumentPlace) (value : ℕ) (values : List ℕ) →
    block_from bytes (place ∷ places) (value ∷ values) ≡ block_from (with_argument bytes place value) places values
unfolding block_from
block_more bytes place places value values = refl
