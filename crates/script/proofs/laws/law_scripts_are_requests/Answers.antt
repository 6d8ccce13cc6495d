use Rattle.std.proofs.Common.{List, ap, sym, subst, ◌∙◌}
use Rattle.core_model.specs.declared.entry.Entry.{Entry}
use Rattle.core_model.specs.Rotation.{entries_in}
use Rattle.world.specs.Headline.{Headline}
use Rattle.script.specs.Runs.{as_text}
use Rattle.script.specs.Watchers.{nobody}
use Rattle.script.proofs.Reaching.{line_reaches, runs_reach, script_reaches}
use Rattle.script.proofs.laws.law_scripts_are_requests.Goals as goal

pub returns-clause-line : goal.returns-clause-line
returns-clause-line c = λ later asked old told new done. line_reaches later asked old told new done

pub returns-clause-run : goal.returns-clause-run
returns-clause-run c = λ later old new held holds had left result ran. script_reaches as_text nobody later old new held holds had left result ran

pub returns-clause-headline : goal.returns-clause-headline
returns-clause-headline c = λ later kernels capacity lines text opened world begun ran.
    let reached = runs_reach as_text nobody later opened world lines text ran in
    let entries = ap entries_in (sym reached.1.3) ∙ c.law_each_run_goes_on.ensures.entries reached.1.1 in (
      reached.0,
      reached.1,
      subst (λ (prior : List Entry). Headline c.args.policy.now prior world) (sym entries)
          (c.law_headline.ensures.headline kernels capacity reached.1.0 reached.1.1 opened world begun reached.1.2),
    )
