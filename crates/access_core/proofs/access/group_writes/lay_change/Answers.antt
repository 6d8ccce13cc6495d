-- A write is laid over memory as it says.
use Rattle.access_core.proofs.HostMemory.{byte_at-written}
use Rattle.access_core.proofs.access.group_writes.lay_change.Goals as goal

pub returns-in-Write-clause-changed : goal.returns-in-Write-clause-changed
returns-in-Write-clause-changed c =
    rw c.in-Write.is (λ x byte before. byte_at-written c.args.memory.now c.lay.new.self c.in-Write.address c.in-Write.bytes x byte (rw c.as_slice.ensures at c.lay.ensures.bytes) before)
