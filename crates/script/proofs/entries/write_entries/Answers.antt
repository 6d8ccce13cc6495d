use Rattle.std.proofs.Common.{arith, ap, ◌∙◌, ◌++◌, string_bytes}
use Rattle.script.specs.Entries.{text_of_entry}
use Rattle.script.proofs.Audit.{entries_more}
use Rattle.script.proofs.entries.write_entries.Goals as goal

pub loop-entry-preserved : goal.loop-entry-preserved
loop-entry-preserved c = (
  entries_more c.args.policy.now c.args.entries.now c.loop-entry.entry-index c.entry-item.result
      (string_bytes c.args.out.now) (string_bytes c.loop-entry.out) (string_bytes c.write_entry.new.out) c.args.before c.loop-entry.number
      (omega arith) c.loop-entry.invariant.0 c.loop-entry.invariant.1
      (c.in_ok-write_entry.ensures ∙ ap (λ entry. string_bytes c.loop-entry.out ++ text_of_entry c.args.policy.now c.loop-entry.number entry) c.entry-item.is),
  omega arith,
)
