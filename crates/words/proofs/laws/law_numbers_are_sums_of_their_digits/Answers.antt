use Rattle.words.proofs.Summing.{address_is_sum, decimal_is_sum}
use Rattle.words.proofs.laws.law_numbers_are_sums_of_their_digits.Goals as goal

pub returns-clause-decimal : goal.returns-clause-decimal
returns-clause-decimal c = λ word number e. decimal_is_sum word number e

pub returns-clause-address : goal.returns-clause-address
returns-clause-address c = λ word number e. address_is_sum word number e
