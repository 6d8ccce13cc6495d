use Rattle.std.proofs.Common.{◌≡◌, length, map}
use Rattle.hsail_reader.specs.Lexemes.{header_among, header_words, header_view}
use Rattle.hsail_reader.proofs.lexeme.header.Given as goal

abbrev pub invariant-loop-names : goal.invariant-loop-names
invariant-loop-names l =
    header_among (map header_view l.names) l.bytes ≡ header_among header_words l.bytes

abbrev pub decreases-loop-names : goal.decreases-loop-names
decreases-loop-names l = length l.names
