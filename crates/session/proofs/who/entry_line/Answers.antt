use Rattle.std.proofs.Common.{◌+◌, ◌<◌, ◌^◌, length, rules, arith}
use Rattle.session.proofs.who.entry_line.Goals as goal

pub user_line-requires-clause-key : goal.user_line-requires-clause-key
user_line-requires-clause-key c = let few : length c.args.line.now + length c.args.line.now < 2 ^ 64 = search rules in omega (arith, few)

pub user_line-requires-clause-name : goal.user_line-requires-clause-name
user_line-requires-clause-name c = let few : length c.args.line.now + length c.args.line.now < 2 ^ 64 = search rules in omega (arith, few)

pub token_line-requires-clause-key : goal.token_line-requires-clause-key
token_line-requires-clause-key c = let few : length c.args.line.now + length c.args.line.now < 2 ^ 64 = search rules in omega (arith, few)

pub token_line-requires-clause-name : goal.token_line-requires-clause-name
token_line-requires-clause-name c = let few : length c.args.line.now + length c.args.line.now < 2 ^ 64 = search rules in omega (arith, few)
