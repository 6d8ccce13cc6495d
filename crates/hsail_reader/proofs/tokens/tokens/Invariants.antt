use Rattle.std.proofs.Common.{◌≡◌, ◌+◌, ◌≤◌, length}
use Rattle.hsail_reader.specs.Faults.{with_front}
use Rattle.hsail_reader.specs.Tokens.{token_views, tokens_from, tokens_of}
use Rattle.hsail_reader.proofs.tokens.tokens.Given as goal

abbrev pub invariant-loop-rest : goal.invariant-loop-rest
invariant-loop-rest l = record {
  reads : with_front (token_views l.tokens.items) (tokens_from 0 l.place l.line l.rest) ≡ tokens_of l.text;
  place_is : l.place + length l.rest ≡ length l.text;
  line_is : l.line ≤ l.place + 1;
}

abbrev pub decreases-loop-rest : goal.decreases-loop-rest
decreases-loop-rest l = length l.rest
