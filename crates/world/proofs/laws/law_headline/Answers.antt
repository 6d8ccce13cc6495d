-- Whatever is asked of a world that was just opened, it stays in step behind what was handed out.
use Rattle.std.proofs.Common.{[], refl}
use Rattle.world.specs.Dues.{handed_out}
use Rattle.world.proofs.Asking.{as-asked}
use Rattle.world.proofs.Kept.{begun_joined, replies_kept}
use Rattle.world.proofs.laws.law_headline.Goals as goal

pub returns-clause-headline : goal.returns-clause-headline
returns-clause-headline c = λ kernels capacity requests replies opened world is are.
    c.headline_of.ensures c.args.policy.now (handed_out replies) world refl
    (replies_kept c.args.policy.now [] opened world requests replies (begun_joined opened c.args.policy.now kernels capacity is) are)

pub returns-clause-asked : goal.returns-clause-asked
returns-clause-asked c = λ kernels capacity requests replies opened world is are. as-asked c.args.policy.now kernels capacity opened world requests replies is are
