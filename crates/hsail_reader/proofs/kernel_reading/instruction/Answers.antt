use Rattle.std.proofs.Common.{◌≡◌, Some, rules}
use Rattle.hsail_reader.specs.Terminals.{first_word}
use Rattle.hsail_reader.specs.Tokens.{token_views}
use Rattle.hsail_reader.specs.declared.words.Word.TheVariants as words
use Rattle.hsail_reader.proofs.RowOperations.{first_of_row}
use Rattle.hsail_reader.proofs.kernel_reading.instruction.Goals as goal

pub operands-requires : goal.operands-requires
operands-requires c =
    let is : first_word (token_views c.args.tokens.now) ≡ Some (words.Instruction c.in-Some-Instruction.opcode) = search rules in
    first_of_row (token_views c.args.tokens.now) c.in-Some-Instruction.opcode is
