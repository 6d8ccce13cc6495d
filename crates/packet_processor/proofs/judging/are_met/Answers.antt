-- Each place of the list is tested, and an empty one passes.
use Rattle.std.proofs.Common.{◌∙◌, sym, rules, Option}
use Rattle.std.specs.Prelude.{option_to_list}
use Rattle.std.specs.List.{list_all}
use Rattle.std.proofs.lemmas.Iterator.{YieldsList-from_slice}
use Rattle.std.proofs.lemmas.Iterator.Search.{all_from_yields_List}
use borrow.Author.Tests.{tests}
use Rattle.core_model.specs.declared.need.Need.{Need}
use Rattle.core_model.specs.LaunchRules.{need_is_met}
use Rattle.packet_processor.specs.Judged.{facts_seen}
use Rattle.packet_processor.proofs.HeldByRule.{all-options}
use Rattle.packet_processor.proofs.judging.are_met.Goals as goal

pub returns : goal.returns
returns c =
    all_from_yields_List (λ (o : Option Need). list_all (need_is_met (facts_seen c.args.facts.now)) (option_to_list o)) c.all.new.self _ c.all.result c.all.ensures.ran
    (YieldsList-from_slice c.args.needs.now cc) (λ x b q k. search (rules, tests))
    ∙ sym (all-options (need_is_met (facts_seen c.args.facts.now)) c.args.needs.now)
