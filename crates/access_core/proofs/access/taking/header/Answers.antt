-- The header is in the first word.
use Rattle.std.proofs.Common.{ℕ, List, get_or, ◌∙◌, ◌==◌, ap, rules}
use Rattle.aql_packet.specs.Numbers.{bits}
use Rattle.access_core.proofs.access.taking.header.Goals as goal

pub returns : goal.returns
returns c =
    c.header_of.ensures.barrier
    ∙ ap (λ (words : List ℕ). bits (get_or words 0 0) 8 8 == 1) c.words_of.ensures
    ∙ c.law_header_in_first_word.ensures.barrier c.args.bytes.now (record { count = search rules; below = λ place. search rules })
