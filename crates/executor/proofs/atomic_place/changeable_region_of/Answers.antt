use Rattle.std.proofs.Common.{ap, ◌∙◌, ◌%◌}
use Rattle.std.specs.Prelude.{find, option_map}
use Rattle.policy.specs.declared.rights.Right.TheVariants.{Read, Write}
use Rattle.executor.specs.Items.{lent_region}
use Rattle.executor.specs.Views.{has_byte_at}
use Rattle.executor.specs.inner.Places.{if_reached}
use Rattle.executor.specs.inner.Whole.{allowed_in}
use Rattle.aql_packet.specs.Memory.{region_span}
use Rattle.executor.proofs.AccessLemmas.{allowed_lent, changeable_in}
use Rattle.executor.proofs.ViewLemmas.{found_lent}
use Rattle.executor.proofs.atomic_place.changeable_region_of.Goals as goal

pub returns : goal.returns
returns c =
    let found = find (λ region. has_byte_at region c.args.address) c.args.view.now in
    ap (option_map lent_region) c.find_changeable.ensures
    ∙ allowed_lent Write (if_reached Read (c.args.address % region_span) c.args.size found) c.args.address c.args.size
    ∙ ap (λ o. allowed_in Write o c.args.address c.args.size) (allowed_lent Read found c.args.address c.args.size)
    ∙ ap (λ o. changeable_in o c.args.address c.args.size) (found_lent c.args.view.now c.args.address)
