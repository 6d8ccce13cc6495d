use Rattle.std.proofs.Common.{◌≡◌, length}
use Rattle.hsail_reader.specs.Grammar.{next_argument, some_arguments}
use Rattle.hsail_reader.specs.Grammars.{read, all_at, begins}
use Rattle.hsail_reader.specs.Terminals.{close_parenthesis}
use Rattle.hsail_reader.specs.Tokens.{token_views}
use Rattle.hsail_reader.proofs.Loop.{with_front}
use Rattle.hsail_reader.proofs.kernel_reading.some_arguments.Given as goal

abbrev pub invariant-arguments : goal.invariant-arguments
invariant-arguments l =
    with_front l.arguments.items (all_at (begins close_parenthesis) (read next_argument) (token_views l.rest)) ≡ read some_arguments (token_views l.tokens)

abbrev pub decreases-arguments : goal.decreases-arguments
decreases-arguments l = length l.rest
