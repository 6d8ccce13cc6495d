-- Both lists are gone through at once.
use Rattle.std.proofs.Common.{rules}
use Rattle.std.specs.Prelude.{not, ◌||◌, ◌&&◌, ◌==◌}
use borrow.Author.Tests.{tests}
use Rattle.std.proofs.lemmas.Iterator.{YieldsList-from_slice, YieldsList-from_zip}
use Rattle.std.proofs.lemmas.Iterator.Search.{all_from_yields_List, any_from_yields_List}
use Rattle.core_model.specs.Work.{SeenDependency}
use Rattle.packet_processor.proofs.packets.is_ready.Goals as goal

pub returns-in-BarrierAnd : goal.returns-in-BarrierAnd
returns-in-BarrierAnd c =
    rw c.in-BarrierAnd.is
    (all_from_yields_List (λ (a : SeenDependency). a.0.0 == 0 || a.1) c.all.new.self _ c.all.result c.all.ensures.ran
    (YieldsList-from_zip {s = c.zip.result} (YieldsList-from_slice c.in-BarrierAnd.barrier.dependencies cc) (YieldsList-from_slice c.args.seen.now.0 cc))
    (λ x b q k. search (rules, tests)))

pub returns-in-BarrierOr : goal.returns-in-BarrierOr
returns-in-BarrierOr c =
    rw c.in-BarrierOr.is
    (any_from_yields_List (λ (a : SeenDependency). not (a.0.0 == 0) && a.1) c.any.new.self _ c.any.result c.any.ensures.ran
    (YieldsList-from_zip {s = c.zip-in-BarrierOr.result} (YieldsList-from_slice c.in-BarrierOr.barrier.dependencies cc) (YieldsList-from_slice c.args.seen.now.0 cc))
    (λ x b q k. search (rules, tests)))
