-- The words so far are put.
use Rattle.std.proofs.Common.{◌≡◌, ◌++◌, ◌+◌, ◌*◌, ◌-◌, ◌≤◌, length, take, vec_capacity, vec_len}
use Rattle.packed_journal.specs.Words.{packed_words}
use Rattle.packed_journal.proofs.packets.put_words.Given as goal

abbrev pub invariant-loop-word : goal.invariant-loop-word
invariant-loop-word l =
    (l.out.items ≡ l.fn.out.items ++ packed_words (take l.word-index l.words)) × (vec_len l.out + 10 * (length l.words - l.word-index) ≤ vec_capacity l.out)
