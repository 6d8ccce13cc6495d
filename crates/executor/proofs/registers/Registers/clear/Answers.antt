use Rattle.std.proofs.Common.{rules, ◌≡◌, ◌∙◌, ◌≤◌, false, length, ap, arith}
use Rattle.std.specs.Prelude.{replicate}
use Rattle.executor.proofs.FewLemmas.{first_done, first_set}
use Rattle.executor.proofs.registers.Registers.clear.Goals as goal

pub returns : goal.returns
returns c =
    let r = c.args.self.now in
    let rest = c.requires c.if-not-few.false in
    let single_long : length r.single ≡ 64 = search rules in
    let double_long : length r.double ≡ 64 = search rules in
    let control_long : length r.control ≡ 64 = search rules in
    ap (λ xs. record { control = first_set false r.control; single = xs; double = first_set 0 r.double }) (first_done 0 r.single (omega (arith, single_long)) rest.0)
    ∙ (ap (λ xs. record { control = first_set false r.control; single = replicate 64 0; double = xs }) (first_done 0 r.double (omega (arith, double_long)) rest.1.0)
    ∙ ap (λ xs. record { control = xs; single = replicate 64 0; double = replicate 64 0 }) (first_done false r.control (omega (arith, control_long)) rest.1.1))
