-- The number of digits to write falls.
use Rattle.words.proofs.hexadecimal.+write_digits.Given as goal

abbrev pub decreases-write_digits : goal.decreases-write_digits
decreases-write_digits l = l.count
