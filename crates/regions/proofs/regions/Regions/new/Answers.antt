use Rattle.std.proofs.Common.{◌≡◌, ◌≤◌, ◌∙◌, length, ap, arith}
use Rattle.std.proofs.lemmas.List.{take_all}
use Rattle.regions.specs.Memory.{zeros}
use Rattle.regions.proofs.Invariant.{IsMemory-zeros}
use Rattle.regions.proofs.regions.Regions.new.Goals as goal

pub invariant_of-result : goal.invariant_of-result
invariant_of-result c =
    let done : length c.args.lengths.now ≤ c.loop-length.length-index = omega arith in
    let all : c.loop-length.regions.items ≡ zeros c.args.lengths.now =
    c.loop-length.invariant ∙ ap zeros (take_all c.loop-length.length-index c.args.lengths.now done) in
    rw (c.into_boxed_slice.ensures.items, all) (IsMemory-zeros c.args.lengths.now c.requires)
