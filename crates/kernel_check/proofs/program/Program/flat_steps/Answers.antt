use Rattle.std.proofs.Common.{rules, ◌≡◌, ◌≤◌, length, arith}
use Rattle.kernel_check.specs.Limits.{most_instructions}
use Rattle.kernel_check.specs.Flat.{AreFlat}
use Rattle.kernel_check.proofs.FlatLemmas.{as_many}
use Rattle.kernel_check.proofs.program.Program.flat_steps.Goals as goal

pub returns-clause-count : goal.returns-clause-count
returns-clause-count c = as_many c.as_slice.result.now c.args.self.now.steps (search rules)

pub returns-clause-few : goal.returns-clause-few
returns-clause-few c =
    let flat : AreFlat c.as_slice.result.now c.args.self.now.steps = search rules in
    let many : length c.as_slice.result.now ≡ length c.args.self.now.steps = as_many c.as_slice.result.now c.args.self.now.steps flat in
    let few : length c.args.self.now.steps ≤ most_instructions = search rules in
    omega (arith, many, few)
