-- The next change is laid behind those before it.
use Rattle.std.proofs.Common.{arith}
use Rattle.hobbydresser_c.specs.Effects.{laid_out}
use Rattle.hobbydresser_c.proofs.Laying.{run-fits, run-laid}
use Rattle.hobbydresser_c.proofs.effects_left.put_all.Goals as goal

pub put_effect-at-requires : goal.put_effect-at-requires
put_effect-at-requires c =
    run-fits laid_out c.args.effects.now c.effects.place c.index-effects-place.result c.args.out.now c.effects.out c.effects.at (omega arith)
    c.index-effects-place.is c.requires c.effects.invariant.0 c.effects.invariant.1

pub effects-preserved : goal.effects-preserved
effects-preserved c =
    run-laid laid_out c.args.effects.now c.effects.place c.index-effects-place.result c.args.out.now c.effects.out c.effects.at
    c.put_effect-at.new.out c.put_effect-at.result (omega arith) c.index-effects-place.is c.effects.invariant.0 c.effects.invariant.1
    c.put_effect-at.ensures.next c.put_effect-at.ensures.laid
