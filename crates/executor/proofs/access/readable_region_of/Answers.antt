use Rattle.std.proofs.Common.{ap, ◌∙◌}
use Rattle.std.specs.Prelude.{find, option_map}
use Rattle.policy.specs.declared.rights.Right.TheVariants.{Read}
use Rattle.executor.specs.Items.{lent_region}
use Rattle.executor.specs.Views.{has_byte_at}
use Rattle.executor.specs.inner.Whole.{allowed_in}
use Rattle.executor.proofs.AccessLemmas.{allowed_lent}
use Rattle.executor.proofs.ViewLemmas.{found_lent}
use Rattle.executor.proofs.access.readable_region_of.Goals as goal

pub returns : goal.returns
returns c =
    ap (option_map lent_region) c.find_readable.ensures
    ∙ allowed_lent Read (find (λ region. has_byte_at region c.args.address) c.args.view.now) c.args.address c.args.size
    ∙ ap (λ o. allowed_in Read o c.args.address c.args.size) (found_lent c.args.view.now c.args.address)
