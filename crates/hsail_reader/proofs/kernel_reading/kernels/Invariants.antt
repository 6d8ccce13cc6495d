use Rattle.std.proofs.Common.{◌≡◌, length}
use Rattle.hsail_reader.specs.Grammar.{is_none_left, kernel, kernels}
use Rattle.hsail_reader.specs.Grammars.{read, all_at}
use Rattle.hsail_reader.specs.Tokens.{token_views}
use Rattle.hsail_reader.proofs.Loop.{with_front}
use Rattle.hsail_reader.proofs.kernel_reading.kernels.Given as goal

abbrev pub invariant-kernels : goal.invariant-kernels
invariant-kernels l =
    with_front l.kernels.items (all_at is_none_left (read kernel) (token_views l.rest)) ≡ read kernels (token_views l.tokens)

abbrev pub decreases-kernels : goal.decreases-kernels
decreases-kernels l = length l.rest
