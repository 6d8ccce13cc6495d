-- One step of what is written and read.
use Rattle.std.proofs.Common.{◌≡◌, ℕ, zero, suc, ◌+◌, ◌*◌, ◌/◌, ◌%◌, Bool, true, false, List, [], ◌∷◌, Some, None, refl}
use Rattle.std.specs.Prelude.{nat_lt, ◌==◌, Ok, Err, if◌then◌else◌}
use Rattle.packed_journal.specs.Words.{and_then, where_some, number_within, mask_of, bits_of, with_low, number_in, flags_in}
use Rattle.packed_journal.specs.Readings.{and_read, wrong, read_word, read_words}

pub within_none : (n : ℕ) → number_within zero n ≡ []
unfolding number_within
within_none n = refl

pub within_last : (more n : ℕ) → nat_lt n 128 ≡ true → number_within (suc more) n ≡ n ∷ []
unfolding number_within
within_last more n h = rw h refl

pub within_more : (more n : ℕ) → nat_lt n 128 ≡ false → number_within (suc more) n ≡ (128 + n % 128) ∷ number_within more (n / 128)
unfolding number_within
within_more more n h = rw h refl

pub in_none : (bytes : List ℕ) → number_in zero bytes ≡ None
unfolding number_in
in_none bytes = refl

pub in_end : (more : ℕ) → number_in (suc more) [] ≡ None
unfolding number_in
in_end more = refl

pub in_last : (more byte : ℕ) (bytes : List ℕ) → nat_lt byte 128 ≡ true → number_in (suc more) (byte ∷ bytes) ≡ Some (byte, bytes)
unfolding number_in
in_last more byte bytes h = rw h refl

pub in_more : (more byte : ℕ) (bytes : List ℕ) → nat_lt byte 128 ≡ false →
    number_in (suc more) (byte ∷ bytes) ≡ and_then (number_in more bytes) (λ high rest. where_some (with_low byte high) rest)
unfolding number_in
in_more more byte bytes h = rw h refl

pub no_mask : mask_of [] ≡ 0
unfolding mask_of
no_mask = refl

pub mask_step : (word : ℕ) (words : List ℕ) → mask_of (word ∷ words) ≡ (if word == 0 then 0 else 1) + 2 * mask_of words
unfolding mask_of
mask_step word words = refl

pub words_end : (mask : ℕ) (bytes : List ℕ) → read_words zero mask bytes ≡ (if mask == 0 then Ok ([], bytes) else Err (wrong bytes))
unfolding read_words
words_end mask bytes = refl

pub words_step : (more mask : ℕ) (bytes : List ℕ) →
    read_words (suc more) mask bytes ≡ and_read (read_word (mask % 2) bytes) (λ word rest. and_read (read_words more (mask / 2) rest) (λ words end. Ok (word ∷ words, end)))
unfolding read_words
words_step more mask bytes = refl

pub no_bits : bits_of [] ≡ 0
unfolding bits_of
no_bits = refl

pub bits_step : (set : Bool) (flags : List Bool) → bits_of (set ∷ flags) ≡ (if set then 1 else 0) + 2 * bits_of flags
unfolding bits_of
bits_step set flags = refl

pub no_flags : (bits : ℕ) → flags_in zero bits ≡ []
unfolding flags_in
no_flags bits = refl

pub flags_step : (more bits : ℕ) → flags_in (suc more) bits ≡ (bits % 2 == 1) ∷ flags_in more (bits / 2)
unfolding flags_in
flags_step more bits = refl
