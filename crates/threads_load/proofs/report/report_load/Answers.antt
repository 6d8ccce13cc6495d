use Rattle.std.proofs.Common.{rules, ◌≡◌, [], ◌++◌, ◌∙◌, string_bytes}
use Rattle.core_model.specs.History.{beginning}
use Rattle.threads_load.specs.Reports.{text_of_ending, text_of_regions}
use Rattle.threads_load.proofs.Counted.{lines_are}
use Rattle.threads_load.proofs.report.report_load.Goals as goal

pub returns : goal.returns
returns c = λ handed_out are.
    let start = beginning c.args.core.now.history in
    let entries = c.args.core.now.history.entries in
    let none : string_bytes c.new-text.result ≡ [] = search rules in
    let lines = lines_are start (handed_out ++ entries) c.args.counts.now c.args.plan.now are in
    c.in_ok-write_lines.ensures ∙ (λ i. none i ++ (lines i ++ text_of_regions start entries c.args.plan.now ++ text_of_ending c.args.ending))
