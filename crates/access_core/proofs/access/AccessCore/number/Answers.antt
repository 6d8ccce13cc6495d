-- The eight bytes are those that the history has there.
use Rattle.std.proofs.Common.{◌∙◌, ap}
use Rattle.std.specs.Int.{w64, from_le_bytes}
use Rattle.access_core.proofs.Seen.{seen}
use Rattle.access_core.proofs.WorkReadLemmas.{read-inside}
use Rattle.access_core.proofs.access.AccessCore.number.Goals as goal

pub returns : goal.returns
returns c =
    c.from_le_bytes.ensures
    ∙ ap (from_le_bytes w64)
    (c.copy_from_slice.ensures.after ∙ c.bytes.ensures.bytes
    ∙ read-inside c.self.inside c.self.invariant _ (seen c.self.view_is) c.bytes.ensures.memory c.args.address.0 8 c.requires)
