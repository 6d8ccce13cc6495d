use Rattle.std.proofs.Common.{◌+◌, ◌<◌, ◌^◌, length, rules, arith}
use Rattle.session.proofs.who.limit_line.Goals as goal

pub wrong_word-requires : goal.wrong_word-requires
wrong_word-requires c = let few : length c.args.line.now + length c.args.line.now < 2 ^ 64 = search rules in omega (arith, few)

pub bound_line-requires : goal.bound_line-requires
bound_line-requires c = let few : length c.args.line.now + length c.args.line.now < 2 ^ 64 = search rules in omega (arith, few)
