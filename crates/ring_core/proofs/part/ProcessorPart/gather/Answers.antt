use Rattle.std.proofs.Common.{◌≡◌, length, rules}
use Rattle.ring_core.proofs.Gathering.{gathers}
use Rattle.ring_core.proofs.part.ProcessorPart.gather.Goals as goal

pub returns : goal.returns
returns c =
    let n : length c.args.self.now.collected ≡ 8 = search rules in
    let m : length c.args.words.now ≡ 8 = search rules in
    gathers c.args.self.now c.args.words.now _ c.showing.result _ n m c.requires c.known-self.ensures c.showing.ensures c.push_all.ensures
