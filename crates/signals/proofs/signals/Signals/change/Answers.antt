use Rattle.std.proofs.Common.{◌≡◌, ◌-◌, ◌<◌, length, is_some, true, rules}
use Rattle.std.specs.Prelude.{FitsSigned}
use Rattle.std.specs.Box.{boxed_slice_items}
use Rattle.std.specs.Int.{w64}
use Rattle.std.proofs.Math.Facts.{to_z-of_z}
use Rattle.signals.specs.Values.{value_of}
use Rattle.signals.proofs.ValueLemmas.{changed_at, index_of}
use Rattle.signals.proofs.signals.Signals.change.Goals as goal

pub overflow_sub-index : goal.overflow_sub-index
overflow_sub-index c = (index_of c.args.self.now c.args.signal.0 c.requires).0

pub index-requires : goal.index-requires
index-requires c =
    let view : boxed_slice_items c.self.inside.values ≡ c.args.self.now = c.self.view_is in
    let within : c.args.signal.0 - 1 < length (boxed_slice_items c.self.inside.values) = rw view (index_of c.args.self.now c.args.signal.0 c.requires).1 in
    search rules

pub index_mut-requires : goal.index_mut-requires
index_mut-requires c =
    let view : boxed_slice_items c.self.inside.values ≡ c.args.self.now = c.self.view_is in
    let within : c.args.signal.0 - 1 < length (boxed_slice_items c.self.inside.values) = rw view (index_of c.args.self.now c.args.signal.0 c.requires).1 in
    search rules

pub returns : goal.returns
returns c =
    let view : boxed_slice_items c.self.inside.values ≡ c.args.self.now = c.self.view_is in
    let fits : FitsSigned w64 c.index.result.now = search rules in
    let fits_new : FitsSigned w64 c.applied.result = search rules in
    let is = rw (to_z-of_z fits) at c.applied.ensures in
    let there : is_some (value_of (boxed_slice_items c.self.inside.values) c.args.signal.0) ≡ true = rw view c.requires in
    let changed = changed_at (boxed_slice_items c.self.inside.values) c.args.signal.0 there c.index.result.now c.args.operation in
    rw (to_z-of_z fits_new, ← view, is, c.index.ensures) changed
