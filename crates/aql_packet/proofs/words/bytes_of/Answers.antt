-- The eight words are written behind one another.
use Rattle.std.proofs.Common.{rules, ◌≡◌, ◌∙◌, ap, length}
use Rattle.aql_packet.specs.Words.{words_of}
use Rattle.aql_packet.proofs.WordLemmas.{filled, words_back}
use Rattle.aql_packet.proofs.words.bytes_of.Goals as goal

pub returns-clause-value : goal.returns-clause-value
returns-clause-value c =
    let n : length c.args.words.now ≡ 8 = search rules in
    filled c.args.words.now n _ _ _ _ _ _ _ _
    c.put_u64.ensures.value c.put_u64-2.ensures.value c.put_u64-3.ensures.value c.put_u64-4.ensures.value
    c.put_u64-5.ensures.value c.put_u64-6.ensures.value c.put_u64-7.ensures.value c.put_u64-8.ensures.value

pub returns-clause-back : goal.returns-clause-back
returns-clause-back c = ap words_of (returns-clause-value c) ∙ words_back c.args.words.now (record { count = search rules; below = search rules })
