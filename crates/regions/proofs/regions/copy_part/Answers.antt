use Rattle.std.proofs.Common.{◌<◌, length, arith}
use Rattle.regions.proofs.Parts.{read_second, read_first, set_second, set_first}
use Rattle.regions.proofs.regions.copy_part.Goals as goal

pub returns-then-source-target-2 : goal.returns-then-source-target-2
returns-then-source-target-2 c =
    let low = c.split_at_mut-low.result.0.now in
    let high = c.split_at_mut-low.result.1.now in
    let cut = c.split_at_mut-low.ensures in
    let before : c.args.source.index < length low = omega arith in
    let target = read_second c.args.regions.now low high c.args.target.index c.index-high-0.result cut.value cut.front_len c.requires.target.known c.index-high-0.is in
    let source = read_first c.args.regions.now low high c.args.source.index c.index-low-source.result cut.value before c.index-low-source.is in
    let joined = set_second c.args.regions.now low high c.args.target.index c.put.new.self cut.value cut.front_len in
    cc (target, source, joined, c.put.ensures, c.part.ensures)

pub returns-else-source-target-2 : goal.returns-else-source-target-2
returns-else-source-target-2 c =
    let low = c.split_at_mut-low-else-source-target-2.result.0.now in
    let high = c.split_at_mut-low-else-source-target-2.result.1.now in
    let cut = c.split_at_mut-low-else-source-target-2.ensures in
    let before : c.args.target.index < length low = omega arith in
    let source = read_second c.args.regions.now low high c.args.source.index c.index-high-0-else-source-target-2.result cut.value cut.front_len c.requires.source.known c.index-high-0-else-source-target-2.is in
    let target = read_first c.args.regions.now low high c.args.target.index c.index-low-target.result cut.value before c.index-low-target.is in
    let joined = set_first c.args.regions.now low high c.args.target.index c.put-else-source-target-2.new.self cut.value before in
    cc (target, source, joined, c.put-else-source-target-2.ensures, c.part-else-source-target-2.ensures)
