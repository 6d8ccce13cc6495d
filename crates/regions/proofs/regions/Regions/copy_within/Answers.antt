use Rattle.std.specs.Box.{boxed_slice_items, boxed_slice_len}
use Rattle.std.proofs.Common.{◌++◌, length, take, drop, arith}
use Rattle.regions.specs.Memory.{bytes_from}
use Rattle.regions.proofs.Written.{Leaves, copy_leaves}
use Rattle.regions.proofs.regions.Regions.copy_within.Goals as goal
use Rattle.regions.proofs.regions.Regions.copy_within.Goals.{After-copy_part}

left : (c : After-copy_part) → Leaves c.args.self.now c.args.target.0 (bytes_from c.args.self.now c.args.source.0 c.args.length) (take (boxed_slice_len c.self.inside.regions) (c.copy_part.new.regions ++ drop (length c.copy_part.new.regions) (boxed_slice_items c.self.inside.regions)))
left c =
    let lent = c.as_mut_slice.ensures.value in
    let copied = rw lent at c.copy_part.ensures in
    copy_leaves c.args.self.now (boxed_slice_items c.self.inside.regions) c.copy_part.new.regions (boxed_slice_len c.self.inside.regions)
    c.args.source.0 c.args.target.0 c.args.length c.in_ok-from.from c.in_ok-to.to c.self.view_is (omega arith)
    c.self.invariant c.in_ok-from.ensures.place c.in_ok-to.ensures.place copied

pub invariant_of-self : goal.invariant_of-self
invariant_of-self c = (left ((goal.at.invariant_of-self c).After-copy_part)).memory

pub returns-clause-bytes : goal.returns-clause-bytes
returns-clause-bytes c = (left ((goal.at.returns-clause-bytes c).After-copy_part)).written

pub returns-clause-lengths : goal.returns-clause-lengths
returns-clause-lengths c = (left ((goal.at.returns-clause-lengths c).After-copy_part)).lengths

pub returns-clause-memory : goal.returns-clause-memory
returns-clause-memory c = (left ((goal.at.returns-clause-memory c).After-copy_part)).memory
