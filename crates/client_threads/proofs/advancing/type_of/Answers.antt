-- The type is in the first word.
use Rattle.std.proofs.Common.{ℕ, List, get_or, ◌∙◌, ap, rules}
use Rattle.aql_packet.specs.Numbers.{bits}
use Rattle.client_threads.proofs.advancing.type_of.Goals as goal

pub returns : goal.returns
returns c =
    c.header_of.ensures.kind
    ∙ ap (λ (words : List ℕ). bits (get_or words 0 0) 7 0) c.words_of.ensures
    ∙ c.law_header_in_first_word.ensures.kind c.args.bytes.now (record { count = search rules; below = λ place. search rules })
