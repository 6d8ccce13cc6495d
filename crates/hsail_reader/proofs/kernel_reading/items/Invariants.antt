use Rattle.std.proofs.Common.{◌≡◌, length}
use Rattle.hsail_reader.specs.Grammar.{item, items}
use Rattle.hsail_reader.specs.Grammars.{read, all_at, begins}
use Rattle.hsail_reader.specs.Terminals.{close_brace}
use Rattle.hsail_reader.specs.Tokens.{token_views}
use Rattle.hsail_reader.proofs.Loop.{with_front}
use Rattle.hsail_reader.proofs.kernel_reading.items.Given as goal

abbrev pub invariant-items : goal.invariant-items
invariant-items l =
    with_front l.items.items (all_at (begins close_brace) (read item) (token_views l.rest)) ≡ read items (token_views l.tokens)

abbrev pub decreases-items : goal.decreases-items
decreases-items l = length l.rest
