use Rattle.std.proofs.Common.{◌+◌, ◌<◌, ◌^◌, length, rules, arith}
use Rattle.session.proofs.who.three_words.Goals as goal

pub wrong_word-requires : goal.wrong_word-requires
wrong_word-requires c = let few : length c.args.line.now + length c.args.line.now < 2 ^ 64 = search rules in omega (arith, few)
