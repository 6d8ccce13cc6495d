-- There is a next kernel.
use Rattle.std.proofs.Common.{◌+◌}
use Rattle.policy.specs.Policy.{row_of}
use Rattle.access_core.proofs.PolicyRows.{rows_none}
use Rattle.hobbydresser_c.proofs.Rows.{copied-some}
use Rattle.hobbydresser_c.proofs.kernels.source_after.Goals as goal

pub unwrap-requires : goal.unwrap-requires
unwrap-requires c =
    copied-some c.kernel_source.result (row_of c.args.policy.now.kernels (c.args.before + 1)) c.kernel_source.ensures
    (λ none. rows_none c.args.policy.now.kernels c.args.before none c.requires.there)
