use Rattle.std.proofs.Common.{Some, ap, sym, ◌∙◌}
use Rattle.std.specs.Int.{w32}
use Rattle.executor.specs.Atomics.{replacing}
use Rattle.executor.specs.Numbers.{unsigned}
use Rattle.kernel_check.specs.Flat.{changed}
use Rattle.executor.proofs.flat_atomics.changed32.Goals as goal

pub returns-in-Add : goal.returns-in-Add
returns-in-Add c = ap Some (c.add.ensures unsigned) ∙ ap (λ f. replacing w32 (λ v. v) (changed f c.args.value) c.args.old) (sym c.in-Add.is)

pub returns-in-Subtract : goal.returns-in-Subtract
returns-in-Subtract c =
    ap Some (c.subtract.ensures unsigned) ∙ ap (λ f. replacing w32 (λ v. v) (changed f c.args.value) c.args.old) (sym c.in-Subtract.is)
